-- A sound state stays sound under receive, whatever it answers, its store stays its own, and its numbers fit their type.
use mathlib.Core.Bool.{Bool, true, false, not, ◌||◌}
use mathlib.Core.List.{List}
use mathlib.Core.Path.{◌≡◌, refl, ap, ◌∙◌}
use Prim.Native.Nat.{ℕ, ◌+◌, ◌^◌, ◌<◌, ◌≤◌}
use native.Mathlib.Omega.{arith}
use borrow.Author.Tests.{eqb-false}
use lib.Dec.{eqb}
use lib.ListN.{length}
use Rattle.std.specs.Prelude.{Result, Ok, Err}
use Rattle.crc.specs.Unit.{right}
use Rattle.flit_read.specs.Fields.{fields_of}
use Rattle.flit_read.specs.declared.Fields.{Fields}
use Rattle.flit_read.proofs.Laws.{fields_fit}
use Rattle.end_state.specs.Update.{with_gathered, with_owed, with_position, with_stalled, with_discards, with_pending}
use Rattle.end_state.specs.Refusals.{store_is, sound}
use Rattle.end_state.specs.declared.End.{End}
use Rattle.end_state.specs.declared.Refusal.{Refusal}
use Rattle.end_state.specs.declared.Mode.{Mode}
use Rattle.end_state.specs.declared.Mode.TheVariants.{Run, Wait, Down}
use Rattle.std.proofs.lemmas.Bool.{cond_both, or_left, or_right, not_from_false}
use Rattle.receive_test.specs.Arrivals.{newly_covered, past_sent, checked}
use Rattle.receive_answer.specs.Answers.{mode_answer}
use Rattle.receive_answer.specs.declared.Answer.{Answer}
use Rattle.receive_answer.specs.declared.Answer.TheVariants as answer
use Rattle.receive_answer.proofs.Found.{Fits, found}
use Rattle.receive_free.specs.Acknowledge.{sent_anew, acknowledged}
use Rattle.receive_take.specs.Taken.{idled, closed, delivered, informed, replay_taken}
use Rattle.receive_state.specs.Effects.{waiting, discarded, ahead_in, end_after}
use Rattle.receive.specs.Receive.{receive_verdict, answer_by, answer_to, receive}
use Rattle.receive_state.proofs.Covering.{Fitting}
use Rattle.receive.proofs.Freed.{acknowledged_sends, acknowledged_apart, anew_sends}
use Rattle.receive.proofs.Grounds.{Grounds, grounds}
use Rattle.receive.proofs.Sides.{Sends, Receives, sending, receiving, both_sound}

-- a state after another, over the same store
pub record Kept (e x : End) (store : List ℕ) : Type 0 where
  pub sends : Sends x store
  pub receives : Receives x
  pub capacity : x.capacity.0 ≡ e.capacity.0
  pub oldest : x.oldest.0 < 2 ^ 16
  pub acknowledged : x.acknowledged.0 < 2 ^ 16
  pub sent : x.sent.0 < 2 ^ 16

while_open : (a b : Bool) → a ≡ false → (not a || b) ≡ true
while_open a b h = or_left (not a) b (not_from_false a h)

module _ (e : End) (store : List ℕ) where
  waiting_kept : (x : End) → Kept e x store → Kept e (waiting x) store
  unfolding waiting
  waiting_kept x k =
      record {
        sends = k.sends;
        receives =
            record {
              owed_in = k.receives.owed_in;
              gathered_in = omega arith;
              none_stalled = or_right (not x.stalled) true refl;
              untold_in = k.receives.untold_in;
              discards_in = omega arith;
            };
        capacity = k.capacity;
        oldest = k.oldest;
        acknowledged = k.acknowledged;
        sent = k.sent;
      }

  counted : (x : End) (n : ℕ) → n ≤ 63 → Kept e x store → Kept e (with_discards n x) store
  counted x n h k =
      record {
        sends = k.sends;
        receives =
            record {
              owed_in = k.receives.owed_in;
              gathered_in = k.receives.gathered_in;
              none_stalled = k.receives.none_stalled;
              untold_in = k.receives.untold_in;
              discards_in = h;
            };
        capacity = k.capacity;
        oldest = k.oldest;
        acknowledged = k.acknowledged;
        sent = k.sent;
      }

  discarded_kept : (x : End) → Kept e x store → Kept e (discarded x) store
  unfolding discarded
  discarded_kept x k =
      cond_both (eqb (x.discards + 1) 64) _ _ (λ (y : End). Kept e y store)
      (λ t. counted (with_pending true x) 0 (omega arith) (pending_kept x k))
      (λ t. counted x (x.discards + 1) (below k.receives.discards_in (eqb-false (x.discards + 1) 64 t)) k)
    where
      below : x.discards ≤ 63 → (x.discards + 1 ≡ 64 → ⊥) → x.discards + 1 ≤ 63
      below h d = omega arith

      pending_kept : (y : End) → Kept e y store → Kept e (with_pending true y) store
      pending_kept y h =
          record {
            sends = h.sends;
            receives = h.receives;
            capacity = h.capacity;
            oldest = h.oldest;
            acknowledged = h.acknowledged;
            sent = h.sent;
          }

  ahead_kept : (m : Mode) (x : End) → Kept e x store → Kept e (ahead_in m x) store
  ahead_kept Run x k = waiting_kept x k
  ahead_kept Wait x k = discarded_kept x k
  ahead_kept Down x k = k

module _ (e : End) (store : List ℕ) (f : Fields) (fit : Fitting e) (its : store_is e (length store) ≡ true) (ok : sound e store ≡ true) where
  same : Kept e e store
  same =
      record {
        sends = sending e store ok;
        receives = receiving e store ok;
        capacity = refl;
        oldest = fit.oldest;
        acknowledged = fit.acknowledged;
        sent = fit.sent;
      }

  idled_kept : past_sent e f.acks.0 ≡ false → e.gathered.0 ≡ 0 → Kept e (idled e store f) store
  idled_kept w h =
      let r = receiving e store ok in
      let a = acknowledged_apart e store f.acks.0 in
      let z : (acknowledged e store f.acks.0).gathered.0 ≡ 0 = a.gathered ∙ h in
      record {
        sends = acknowledged_sends e store f.acks.0 fit its ok w;
        receives =
            record {
              owed_in = omega (arith, r.owed_in, a.owed);
              gathered_in = omega (arith, z);
              none_stalled = ap (λ (n : ℕ). not f.stalled || eqb n 0) z ∙ or_right (not f.stalled) true refl;
              untold_in = omega (arith, r.untold_in, a.untold);
              discards_in = omega (arith, r.discards_in, a.discards);
            };
        capacity = a.capacity;
        oldest = a.oldest;
        acknowledged = a.acknowledged;
        sent = omega (arith, a.sent, fit.sent);
      }

  closed_kept : past_sent e f.acks.0 ≡ false → f.run.0 ≤ 8 → Kept e (closed e store f) store
  unfolding closed
  closed_kept w h =
      let r = receiving e store ok in
      let a = acknowledged_apart e store f.acks.0 in
      record {
        sends = acknowledged_sends e store f.acks.0 fit its ok w;
        receives =
            record {
              owed_in = h;
              gathered_in = omega arith;
              none_stalled = or_right (not f.stalled) true refl;
              untold_in = omega (arith, r.untold_in, a.untold);
              discards_in = omega (arith, r.discards_in, a.discards);
            };
        capacity = a.capacity;
        oldest = a.oldest;
        acknowledged = a.acknowledged;
        sent = omega (arith, a.sent, fit.sent);
      }

  delivered_kept : past_sent e f.acks.0 ≡ false → f.run.0 ≤ 8 → e.untold.0 + (e.gathered.0 + 1) ≤ 1024
      → Kept e (delivered e store f) store
  unfolding delivered
  delivered_kept w h u =
      let k = closed_kept w h in
      record {
        sends = k.sends;
        receives =
            record {
              owed_in = k.receives.owed_in;
              gathered_in = k.receives.gathered_in;
              none_stalled = k.receives.none_stalled;
              untold_in = u;
              discards_in = k.receives.discards_in;
            };
        capacity = k.capacity;
        oldest = k.oldest;
        acknowledged = k.acknowledged;
        sent = k.sent;
      }

  replay_taken_kept : past_sent e (newly_covered e f.last.0) ≡ false → f.previous.0 ≤ 8 → Kept e (replay_taken e store f) store
  unfolding replay_taken
  replay_taken_kept w h =
      let n = newly_covered e f.last.0 in
      let x = informed f.information (acknowledged e store n) in
      let r = receiving e store ok in
      let a = acknowledged_apart e store n in
      let s = acknowledged_sends e store n fit its ok w in
      let g : Receives (finished x) =
      record {
        owed_in = h;
        gathered_in = omega arith;
        none_stalled = or_right (not f.stalled) true refl;
        untold_in = omega (arith, r.untold_in, a.untold);
        discards_in = omega (arith, r.discards_in, a.discards);
      } in
      cond_both f.nack (sent_anew true x) x (λ (y : End). Kept e (finished y) store)
      (λ t.
      record {
        sends = anew_sends x store a.oldest s;
        receives = g;
        capacity = a.capacity;
        oldest = a.oldest;
        acknowledged = a.acknowledged;
        sent = omega (arith, a.sent, fit.sent);
      })
      (λ t.
      record {
        sends = s;
        receives = g;
        capacity = a.capacity;
        oldest = a.oldest;
        acknowledged = a.acknowledged;
        sent = omega (arith, a.sent, fit.sent);
      })
    where
      finished : End → End
      finished y = with_position f.start.0 (with_gathered 0 (with_owed f.previous.0 (with_stalled f.stalled y)))

  held_kept : e.stalled ≡ false → e.gathered.0 < e.owed.0 → Kept e (with_gathered (e.gathered.0 + 1) e) store
  held_kept o m =
      let k = same in
      record {
        sends = k.sends;
        receives =
            record {
              owed_in = k.receives.owed_in;
              gathered_in = omega arith;
              none_stalled = while_open e.stalled (eqb (e.gathered.0 + 1) 0) o;
              untold_in = k.receives.untold_in;
              discards_in = k.receives.discards_in;
            };
        capacity = k.capacity;
        oldest = k.oldest;
        acknowledged = k.acknowledged;
        sent = k.sent;
      }

  -- after every answer that is found
  pub after_kept : (a : Answer) → Fits a e f → Grounds a e f → Kept e (end_after a e store f) store
  unfolding end_after
  after_kept (answer.Refused r) p g = same
  after_kept answer.Held p g = held_kept g.running g.more
  after_kept (answer.Delivered n) p g = delivered_kept p.within g.run p.room
  after_kept answer.Duplicate p g = closed_kept p.within g.run
  after_kept answer.Idle p g = idled_kept p.within g.none
  after_kept answer.Replayed p g =
      let k = counted e store (replay_taken e store f) 0 (omega arith) (replay_taken_kept p.within g.previous) in
      record {
        sends = k.sends;
        receives = k.receives;
        capacity = k.capacity;
        oldest = k.oldest;
        acknowledged = k.acknowledged;
        sent = k.sent;
      }
  after_kept answer.Ahead p g = ahead_kept e store e.mode (replay_taken e store f) (replay_taken_kept p.within g.previous)
  after_kept answer.Skipped p g = same
  after_kept answer.Damaged p g = waiting_kept e store e same
  after_kept answer.Discarded p g = discarded_kept e store e same
  after_kept (answer.Down cause) p g =
      let k = same in
      record {
        sends = k.sends;
        receives = k.receives;
        capacity = k.capacity;
        oldest = k.oldest;
        acknowledged = k.acknowledged;
        sent = k.sent;
      }

module _ (e : End) (store hold flit : List ℕ) (fit : Fitting e) (its : store_is e (length store) ≡ true) (ok : sound e store ≡ true) where
  received_kept : Kept e (receive e store hold flit).end store
  unfolding receive answer_to
  received_kept = go (receive_verdict e store (length hold) (length flit))
    where
      go : (v : Result (Unit {0}) Refusal) → Kept e (end_after (answer_by v e hold flit) e store (fields_of flit)) store
      go (Err r) = after_kept e store (fields_of flit) fit its ok (answer.Refused r) (record {}) (record {})
      go (Ok u) =
          let b = right (checked e hold flit) in
          after_kept e store (fields_of flit) fit its ok (mode_answer e.mode e (fields_of flit) b) (found e.mode e (fields_of flit) b)
          (grounds e.mode e (fields_of flit) b (receiving e store ok) (fields_fit flit).run)

  pub stays_sound : sound (receive e store hold flit).end store ≡ true
  stays_sound =
      let k = received_kept in
      both_sound (receive e store hold flit).end store k.sends k.receives

  pub keeps_store : store_is (receive e store hold flit).end (length store) ≡ true
  unfolding store_is
  keeps_store = rw received_kept.capacity its
