-- What a receive may do to the sender's half of an end: an acknowledgement, a NACK or damage. It never moves the cursor without making replay
-- pending, and it never moves sent.
use mathlib.Core.Path.{◌≡◌, refl}
use mathlib.Core.Bool.{Bool, true, false, true≢false}
use Prim.Native.Nat.{ℕ, ◌+◌, ◌≤◌}
use native.Mathlib.Omega.{arith}
use Rattle.proof_model.proofs.Stream.{Stream, num}
use Rattle.proof_model.proofs.End.{Sender, End}
use Rattle.proof_model.proofs.Step.{Acked, keeps, passes, again, nacked, Discard, more, enough}
use Rattle.proof_model.proofs.Num.{num_le, num_of_le}
use Rattle.proof_model.proofs.Chain.{Chain}
use Rattle.proof_model.proofs.Inv.{Local, Tail}

-- what a receive may do to the sender's half
pub record Moves (C : ℕ) (f : Stream) (s t : Sender) : Type 0 where
  pub good : Local C f t
  pub sent : t.sent ≡ s.sent
  pub oldest : s.oldest ≤ t.oldest
  pub cursor : t.pending ≡ false → t.cursor ≡ s.cursor
  pub pending : t.pending ≡ false → s.pending ≡ false

module _ (C : ℕ) (f : Stream) where
  pub stays : {s : Sender} → Local C f s → Moves C f s s
  stays h = record { good = h; sent = refl; oldest = omega arith; cursor = λ z. refl; pending = λ z. z }

  pub acked : {s t : Sender} {a : ℕ} → Local C f s → Acked f s a t → Moves C f s t
  acked {s} h (keeps o b n l d k e) =
      let z : num f s.oldest ≤ num f o = num_le f s.oldest o l in
      record {
        good = record { begun = e; behind = h.behind; given = h.given; freed = d; kept = k; past = n; fits = omega arith; cut = h.cut };
        sent = refl;
        oldest = l;
        cursor = λ z. refl;
        pending = λ z. z;
      }
  acked {s} {a = a} h (passes o b n l d k e) =
      let z : num f s.oldest ≤ num f o = num_le f s.oldest o l in
      let y : o ≤ s.sent = num_of_le f o s.sent (omega arith) in
      record {
        good = record { begun = omega arith; behind = y; given = h.given; freed = d; kept = k; past = n; fits = omega arith; cut = h.cut };
        sent = refl;
        oldest = l;
        cursor = λ z. absurd (true≢false z);
        pending = λ z. absurd (true≢false z);
      }

  pub again_moves : {s t : Sender} → Moves C f s t → Moves C f s (again t)
  again_moves m =
      let h = m.good in
      record {
        good = record { begun = h.begun; behind = h.behind; given = h.given; freed = h.freed; kept = h.kept; past = h.past; fits = h.fits; cut = h.cut };
        sent = m.sent;
        oldest = m.oldest;
        cursor = λ z. absurd (true≢false z);
        pending = λ z. absurd (true≢false z);
      }

  pub nacked_moves : {s t : Sender} (na : Bool) → Moves C f s t → Moves C f s (nacked na t)
  nacked_moves false m = m
  nacked_moves true m =
      let h = m.good in
      record {
        good =
            record {
              begun = omega arith;
              behind = omega arith;
              given = h.given;
              freed = h.freed;
              kept = h.kept;
              past = h.past;
              fits = h.fits;
              cut = h.cut;
            };
        sent = m.sent;
        oldest = m.oldest;
        cursor = λ z. absurd (true≢false z);
        pending = λ z. absurd (true≢false z);
      }

  pub discard_moves : {s t v : Sender} → Moves C f s t → Discard t v → Moves C f s v
  discard_moves m more = m
  discard_moves m enough = again_moves m

  pub tail_moves : (g : Stream) (e e' : End) (c : Chain) → Moves C f e.s e'.s
      → num g e'.r.wanted + e.r.untold ≡ num g e.r.wanted + e'.r.untold → Tail f g e c → Tail f g e' c
  tail_moves g e e' c m u t =
      record {
        rest = t.rest;
        place = λ z. (cc (t.place (m.pending z), m.cursor z));
        hi = omega arith;
        lo = omega arith;
        told = omega arith;
      }
