use mathlib.Core.Bool.{false}
use mathlib.Core.Path.{◌≡◌, ap, ◌∙◌}
use Prim.Native.Nat.{ℕ}
use native.Mathlib.Omega.{arith}
use Rattle.end_state.proofs.Facts.{Counted, sound_is}
use Rattle.end_state.specs.declared.End.{End}
use Rattle.receive_test.specs.Arrivals.{past_sent, newly_covered}
use Rattle.receive_answer.proofs.Found.{Fits}
use Rattle.receive_answer.specs.declared.Answer.{Answer}
use Rattle.receive_free.specs.Acknowledge.{Covered}
use Rattle.receive_state.proofs.Covering.{covering, told, discards_replay_taken}
use Rattle.receive_state.proofs.end_after.Goals as goal
use Rattle.receive_state.proofs.end_after.Goals.{Start}

-- what is known at the start: the counts, what an acknowledgement that is not past sent covers, and what the answer says
counts : (s : goal.Start) → Counted s.args.e
counts s = (sound_is s.args.e s.args.store.now s.requires.1).counts

covers : (s : goal.Start) (n : ℕ) → past_sent s.args.e n ≡ false → Covered s.args.e s.args.store.now n
covers s n h =
    covering s.args.e s.args.store.now n
    (record { oldest = omega arith; acknowledged = omega arith; sent = omega arith })
    s.requires.0 s.requires.1 h

says : (s : goal.Start) (z : Answer) → s.args.answer ≡ z → Fits z s.args.e s.args.f
says s z h = told s.args.answer z s.args.e s.args.f s.requires.2 h

pub held-requires : goal.held-requires
held-requires c = let s = (goal.at.held-requires c).Start in
    let k = counts s in
    omega arith

pub delivered-requires : goal.delivered-requires
delivered-requires c = let s = (goal.at.delivered-requires c).Start in
    let k = counts s in
    (covers s s.args.f.acks.0 (says s _ c.in-Delivered.is).within, omega arith, omega arith)

pub closed-requires : goal.closed-requires
closed-requires c = let s = (goal.at.closed-requires c).Start in
    let k = counts s in
    (covers s s.args.f.acks.0 (says s _ c.in-Duplicate.is).within, omega arith)

pub idled-requires : goal.idled-requires
idled-requires c = let s = (goal.at.idled-requires c).Start in
    covers s s.args.f.acks.0 (says s _ c.in-Idle.is).within

pub replay_taken-requires : goal.replay_taken-requires
replay_taken-requires c = let s = (goal.at.replay_taken-requires c).Start in
    covers s (newly_covered s.args.e s.args.f.last.0) (says s _ c.in-Replayed.is).within

pub replay_taken-requires-in-Ahead : goal.replay_taken-requires-in-Ahead
replay_taken-requires-in-Ahead c = let s = (goal.at.replay_taken-requires-in-Ahead c).Start in
    covers s (newly_covered s.args.e s.args.f.last.0) (says s _ c.in-Ahead.is).within

pub ahead-requires : goal.ahead-requires
ahead-requires c = let s = (goal.at.ahead-requires c).Start in
    let k = counts s in
    omega (
      arith,
      ap (λ (z : End). z.discards) c.replay_taken-in-Ahead.ensures ∙ discards_replay_taken s.args.e s.args.store.now s.args.f,
    )

pub discarded-requires : goal.discarded-requires
discarded-requires c = let s = (goal.at.discarded-requires c).Start in
    let k = counts s in
    omega arith
