-- An acknowledgement that is not past sent covers held flits only.
use mathlib.Core.Bool.{Bool, true, false}
use mathlib.Core.List.{List}
use mathlib.Core.Path.{◌≡◌, refl, sym, subst}
use Prim.Native.Nat.{ℕ, ◌^◌, ◌<◌}
use native.Mathlib.Omega.{arith}
use borrow.Author.Tests.{ltb-false}
use lib.Dec.{ltb}
use lib.ListN.{length}
use Rattle.flit_number.specs.Numbers.{width, after, difference}
use Rattle.flit_number.proofs.Laws.{difference_split}
use Rattle.flit_read.specs.declared.Fields.{Fields}
use Rattle.end_state.specs.Update.{with_acknowledged}
use Rattle.end_state.specs.Refusals.{cursor_at, store_is, sound}
use Rattle.end_state.specs.declared.End.{End}
use Rattle.end_state.proofs.Facts.{stored_is, sound_is}
use Rattle.std.proofs.lemmas.Bool.{cond_both}
use Rattle.receive_test.specs.Arrivals.{past_sent, newly_covered}
use Rattle.receive_answer.specs.Answers.{mode_answer}
use Rattle.receive_answer.specs.declared.Answer.{Answer}
use Rattle.receive_answer.proofs.Found.{Fits, found}
use Rattle.receive_free.specs.Acknowledge.{Covered, freed_by, freed, sent_anew, acknowledged}
use Rattle.receive_take.specs.Taken.{informed, replay_taken}

-- the numbers of a state fit their type
pub record Fitting (e : End) : Type 0 where
  pub oldest : e.oldest.0 < 2 ^ 16
  pub acknowledged : e.acknowledged.0 < 2 ^ 16
  pub sent : e.sent.0 < 2 ^ 16

pub covering : (e : End) (store : List ℕ) (n : ℕ) → Fitting e → store_is e (length store) ≡ true → sound e store ≡ true → past_sent e n ≡ false
    → Covered e store n
unfolding past_sent
covering e store n f h s p =
    let k = stored_is e (length store) h in
    let t = sound_is e store s in
    let c = t.counts in
    let m = t.numbers in
    let d = difference_split width e.oldest.0 e.acknowledged.0 e.sent.0 f.oldest f.acknowledged f.sent m.acknowledged_sent in
    let q = ltb-false (difference width e.sent.0 e.acknowledged.0) n p in
    record {
      bytes = k.whole;
      most = k.most;
      first = c.first;
      held = c.held;
      covered = omega (arith, m.acknowledged_sent, m.sent);
    }

-- what an answer that was found says, by the constructor that it is
pub told : (a z : Answer) (e : End) (f : Fields) → ((b : Bool) × (a ≡ mode_answer e.mode e f b)) → a ≡ z → Fits z e f
told a z e f p q = subst (λ (x : Answer). Fits x e f) q (subst (λ (x : Answer). Fits x e f) (sym p.1) (found e.mode e f p.0))

-- neither an acknowledgement nor a replay flit counts as discarded
discards_acknowledged : (e : End) (store : List ℕ) (n : ℕ) → (acknowledged e store n).discards ≡ e.discards
unfolding acknowledged freed
discards_acknowledged e store n =
    let z = freed (with_acknowledged (after width e.acknowledged.0 n) e) store (freed_by e store n) in
    cond_both (ltb (cursor_at e) (freed_by e store n)) (sent_anew true z) z (λ (z : End). z.discards ≡ e.discards) (λ t. refl) (λ t. refl)

pub discards_replay_taken : (e : End) (store : List ℕ) (f : Fields) → (replay_taken e store f).discards ≡ e.discards
unfolding replay_taken
discards_replay_taken e store f =
    let h = discards_acknowledged e store (newly_covered e f.last.0) in
    let z = informed f.information (acknowledged e store (newly_covered e f.last.0)) in
    cond_both f.nack (sent_anew true z) z (λ (z : End). z.discards ≡ e.discards) (λ t. h) (λ t. h)
