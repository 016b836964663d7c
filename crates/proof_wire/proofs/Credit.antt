-- An acknowledgement on the kept state does what it does on the abstract link: the units all of whose flits are acknowledged leave the
-- store, and where they pass the cursor it moves to the oldest unit left and replay becomes pending.
use mathlib.Core.Path.{◌≡◌, refl, ap, ◌∙◌}
use mathlib.Core.Bool.{Bool, true, false}
use mathlib.Core.List.{List}
use Prim.Native.Nat.{ℕ, suc, ◌+◌, ◌-◌, ◌≤◌, ◌<◌}
use native.Mathlib.Omega.{arith}
use native.Mathlib.Decide.{dec_lt}
use borrow.Author.Tests.{lt-ltb, le-ltb}
use lib.Dec.{ltb}
use Rattle.flit_number.specs.Numbers.{width, after}
use Rattle.end_state.specs.Update.{with_acknowledged, with_pending}
use Rattle.end_state.specs.Ring.{flit_at, ring_place, walk_begun}
use Rattle.end_state.specs.Refusals.{cursor_at, acknowledged_at}
use Rattle.end_state.specs.declared.End.{End}
use Rattle.end_state.proofs.Places.{place_under}
use Rattle.receive_free.specs.Acknowledge.{last_border, freed_by, freed, sent_anew, acknowledged}
use Rattle.receive.proofs.Shifted.{place_place}
use Rattle.proof_model.proofs.Stream.{Stream, owed, num}
use Rattle.proof_model.proofs.End.{Sender}
use Rattle.proof_model.proofs.Step
use Rattle.proof_model.proofs.Step.{Acked, keeps, passes, again}
use Rattle.proof_model.proofs.Num.{num_le, num_lt, num_of_le}
use Rattle.proof_model.proofs.Inv.{Local}
use Rattle.proof_wire.proofs.Wrap.{wrap, most, after_wrap}
use Rattle.proof_wire.proofs.Stands.{restand, goes_on, Stands, Formed, flit_of, off, at_cursor, at_acknowledged, walk_at, borders_in, Within, unit_of}

-- the receiver's half stays
pub record Same (q p : End) : Type 0 where
  pub owed : p.owed ≡ q.owed
  pub gathered : p.gathered ≡ q.gathered
  pub untold : p.untold ≡ q.untold
  pub discards : p.discards ≡ q.discards
  pub wanted : p.wanted ≡ q.wanted
  pub position : p.position ≡ q.position
  pub stalled : p.stalled ≡ q.stalled
  pub mode : p.mode ≡ q.mode

pub record Credited (f : Stream) (store : List ℕ) (s : Sender) (a : ℕ) (q p : End) : Type 0 where
  pub t : Sender
  pub acks : Acked f s a t
  pub stands : Stands f store t p
  pub same : Same q p

-- replay is pending
pub pending_stands : (f : Stream) (store : List ℕ) (s : Sender) (q : End) → Stands f store s q → Stands f store (again s) (with_pending true q)
pending_stands f store s q h =
    restand f store (again s) _ _ refl (goes_on f store s q s.cursor q.cursor.0 true h.cursor h)

-- the cursor at the oldest unit, and replay pending
pub anew_stands : (f : Stream) (store : List ℕ) (s : Sender) (q : End) → Stands f store s q → Stands f store (Step.nacked true s) (sent_anew true q)
anew_stands f store s q h = goes_on f store s q s.oldest q.oldest.0 true h.base h

pub nacked_stands : (f : Stream) (store : List ℕ) (s : Sender) (q : End) (na : Bool) → Stands f store s q → Stands f store (Step.nacked na s) (sent_anew na q)
nacked_stands f store s q true h = anew_stands f store s q h
nacked_stands f store s q false h = h

module _ (f : Stream) (store : List ℕ) (s : Sender) (q : End) (l : Local most f s) (h : Stands f store s q) (fo : Formed f s.accepted)
    (n : ℕ) (past : s.acked + n ≤ num f s.sent)
  where
    w : Within f s.oldest (s.acked + n)
    w = unit_of f s.oldest (s.acked + n) (omega (arith, l.freed))

    -- the oldest unit left
    abbrev o : ℕ
    o = w.unit

    sent_le : num f s.sent ≤ num f s.accepted
    sent_le = num_le f s.sent s.accepted l.given

    o_le : o ≤ s.accepted
    o_le = num_of_le f o s.accepted (omega (arith, w.begins, past, sent_le))

    low : num f s.oldest ≤ num f o
    low = num_le f s.oldest o w.least

    high : num f o ≤ num f s.accepted
    high = num_le f o s.accepted o_le

    frees : freed_by q store n ≡ off f store s q l h fo o
    frees =
        let j = s.acked + n - num f o in
        let e : acknowledged_at q + n ≡ off f store s q l h fo o + j = omega (arith, at_acknowledged f store s q l h fo, w.begins, low, l.freed) in
        ap (last_border q.capacity.0 q.first (walk_begun q.kept.0) store) e
        ∙ borders_in f store s q l h fo o j w.least o_le (omega (arith, w.ends))

    abbrev left_over : End
    left_over = freed (with_acknowledged (after width q.acknowledged.0 n) q) store (off f store s q l h fo o)

    freed_stands : Stands f store (Step.freed (s.acked + n) o s) left_over
    unfolding freed
    freed_stands =
        record {
          least = h.least;
          size = h.size;
          most = h.most;
          room = omega (arith, h.room);
          base =
              ap (λ (b : ℕ). after width b (off f store s q l h fo o)) h.base ∙ after_wrap width (num f s.oldest) (num f o - num f s.oldest)
              ∙ ap wrap (base_sum low);
          acked = ap (λ (b : ℕ). after width b n) h.acked ∙ after_wrap width s.acked n;
          cursor = h.cursor;
          sent = h.sent;
          held = omega (arith, h.held, low, high);
          kept = (walk_at f store s q l h fo o w.least o_le).run;
          pending = h.pending;
          first = place_under q.capacity.0 q.first (off f store s q l h fo o) h.first (omega (arith, h.held, h.room, high));
          ring = ring;
        }
      where
        base_sum : num f s.oldest ≤ num f o → num f s.oldest + (num f o - num f s.oldest) ≡ num f o
        base_sum z = omega arith

        ring : (i j : ℕ) → o ≤ i → i < s.accepted → j ≤ owed f i
            → flit_at store (ring_place q.capacity.0 (ring_place q.capacity.0 q.first (num f o - num f s.oldest)) (num f i + j - num f o)) ≡ flit_of (f i) j
        ring i j a b c =
            let z : num f o ≤ num f i = num_le f o i a in
            let y : num f (suc i) ≤ num f s.accepted = num_le f (suc i) s.accepted b in
            let e : num f o - num f s.oldest + (num f i + j - num f o) ≡ num f i + j - num f s.oldest = omega (arith, low) in
            ap (flit_at store)
            (place_place q.capacity.0 q.first (num f o - num f s.oldest) (num f i + j - num f o) h.first (omega (arith, low, h.held, h.room))
            ∙ ap (ring_place q.capacity.0 q.first) e)
            ∙ h.ring i j (omega (arith, w.least)) b c

    freed_same : Same q left_over
    unfolding freed
    freed_same = record { owed = refl; gathered = refl; untold = refl; discards = refl; wanted = refl; position = refl; stalled = refl; mode = refl }

    -- the two cases, as the choice makes them
    abbrev Goal : End → Type 0
    Goal p = Credited f store s (s.acked + n) q p

    cursor_off : cursor_at q ≡ num f s.cursor - num f s.oldest
    cursor_off = at_cursor f store s q l h fo

    keeps_it : o ≤ s.cursor → Goal (acknowledged q store n)
    unfolding acknowledged
    keeps_it c =
        let z : num f o ≤ num f s.cursor = num_le f o s.cursor c in
        let t : ltb (cursor_at q) (freed_by q store n) ≡ false = le-ltb (cursor_at q) (freed_by q store n) (omega (arith, cursor_off, frees)) in
        simp t
        (rw frees
        (record {
          t = Step.freed (s.acked + n) o s;
          acks = keeps o (omega arith) past w.least w.begins w.ends c;
          stands = freed_stands;
          same = freed_same;
        }))

    passes_it : s.cursor < o → Goal (acknowledged q store n)
    unfolding acknowledged freed
    passes_it c =
        let z : num f s.cursor < num f o = num_lt f s.cursor o c in
        let y : num f s.oldest ≤ num f s.cursor = num_le f s.oldest s.cursor l.begun in
        let t : ltb (cursor_at q) (freed_by q store n) ≡ true = lt-ltb (cursor_at q) (freed_by q store n) (omega (arith, cursor_off, frees)) in
        simp t
        (rw frees
        (record {
          t = Step.passed (s.acked + n) o s;
          acks = passes o (omega arith) past w.least w.begins w.ends c;
          stands = anew_stands f store (Step.freed (s.acked + n) o s) left_over freed_stands;
          same =
              record { owed = refl; gathered = refl; untold = refl; discards = refl; wanted = refl; position = refl; stalled = refl; mode = refl };
        }))

    pub credits : Credited f store s (s.acked + n) q (acknowledged q store n)
    credits = go (dec_lt s.cursor o)
      where
        go : Dec (s.cursor < o) → Credited f store s (s.acked + n) q (acknowledged q store n)
        go (yes c) = passes_it c
        go (no c) = keeps_it (omega arith)
