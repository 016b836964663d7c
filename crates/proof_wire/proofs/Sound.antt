-- The tests of refusals 1 and 2 hold of every state that stands for a state of the abstract link.
use mathlib.Core.Path.{◌≡◌, refl}
use mathlib.Core.Bool.{Bool, true, false, not, ◌||◌, cond}
use mathlib.Core.List.{List}
use Prim.Native.Nat.{ℕ, ◌-◌, ◌*◌, ◌/◌, ◌%◌, ◌≤◌, ◌<◌}
use native.Mathlib.Omega.{arith}
use native.Mathlib.Decide.{dec_lt}
use borrow.Author.Tests.{lt-ltb, le-ltb, le-leb, eq-eqb}
use lib.Dec.{ltb, eqb}
use Rattle.end_state.specs.State.{store_fits}
use Rattle.end_state.specs.Ring.{walked}
use Rattle.end_state.specs.Refusals.{cursor_at, sent_at, acknowledged_at, store_is, counts_sound, numbers_sound, units_sound, sound}
use Rattle.end_state.specs.declared.End.{End as KeptEnd}
use Rattle.proof_model.proofs.Stream.{Stream, owed, num}
use Rattle.proof_model.proofs.End.{Sender, Receiver}
use Rattle.proof_model.proofs.Num.{num_le}
use Rattle.proof_model.proofs.Inv.{Local}
use Rattle.proof_model.proofs.Tidy.{Tidy, Framed}
use Rattle.proof_wire.proofs.Wrap.{most}
use Rattle.proof_wire.proofs.Stands.{Stands, Formed, at_cursor, at_sent, at_acknowledged, walk_at, kept_le}
use Rattle.proof_wire.proofs.Says.{Kept}

pub fits_right : (bytes capacity : ℕ) → 9 ≤ capacity → capacity ≤ 1024 → bytes ≡ capacity * 64 → store_fits bytes ≡ true
unfolding store_fits
fits_right bytes capacity a b h =
    simp (eq-eqb (bytes % 64) 0 (omega arith), le-leb 9 (bytes / 64) (omega arith), le-leb (bytes / 64) 1024 (omega arith))

pub store_right : (q : KeptEnd) (bytes : ℕ) → 9 ≤ q.capacity.0 → q.capacity.0 ≤ 1024 → bytes ≡ q.capacity.0 * 64 → store_is q bytes ≡ true
unfolding store_is
store_right q bytes a b h = simp (fits_right bytes q.capacity.0 a b h, eq-eqb (bytes / 64) q.capacity.0 (omega arith))

module _ (f g : Stream) (store hold : List ℕ) (handed : List (List ℕ)) (s : Sender) (r : Receiver) (q : KeptEnd) (l : Local most f s)
    (h : Stands f store s q) (k : Kept g r q hold handed) (fo : Formed f s.accepted) (t : Tidy r) (fr : Framed r) (un : r.untold ≤ 1024)
  where
    still : (not q.stalled || eqb q.gathered.0 0) ≡ true
    still = go r.stalled refl
      where
        go : (b : Bool) → r.stalled ≡ b → (not q.stalled || eqb q.gathered.0 0) ≡ true
        go true e = simp (k.stalled, e, k.gathered, fr.none e)
        go false e = simp (k.stalled, e)

    counts : counts_sound q ≡ true
    unfolding counts_sound
    counts =
        simp (
          lt-ltb q.first q.capacity.0 h.first,
          le-leb q.held.0 q.capacity.0 h.room,
          le-leb q.kept.0 8 (kept_le f store s q l h fo),
          le-leb q.owed.0 8 (omega (arith, k.owes, t.owes)),
          le-leb q.gathered.0 q.owed.0 (omega (arith, k.gathered, k.owes, fr.data_le)),
          still,
          le-leb q.untold.0 1024 (omega (arith, k.untold)),
          le-leb q.discards 63 (omega (arith, k.discards)),
        )

    up : num f s.oldest ≤ num f s.cursor
    up = num_le f s.oldest s.cursor l.begun

    up' : num f s.cursor ≤ num f s.sent
    up' = num_le f s.cursor s.sent l.behind

    up'' : num f s.sent ≤ num f s.accepted
    up'' = num_le f s.sent s.accepted l.given

    dc : cursor_at q ≡ num f s.cursor - num f s.oldest
    dc = at_cursor f store s q l h fo

    ds : sent_at q ≡ num f s.sent - num f s.oldest
    ds = at_sent f store s q l h fo

    da : acknowledged_at q ≡ s.acked - num f s.oldest
    da = at_acknowledged f store s q l h fo

    inside_oldest : acknowledged_at q ≤ cond (ltb 0 q.held.0) q.kept.0 0
    inside_oldest = go (dec_lt 0 q.held.0)
      where
        go : Dec (0 < q.held.0) → acknowledged_at q ≤ cond (ltb 0 q.held.0) q.kept.0 0
        go (yes p) = simp (lt-ltb 0 q.held.0 p) (omega (arith, da, h.kept, l.kept, l.freed))
        go (no p) = simp (le-ltb 0 q.held.0 (omega arith)) (omega (arith, da, h.held, l.past, up''))

    numbers : numbers_sound q ≡ true
    unfolding numbers_sound
    numbers =
        simp (
          le-leb (cursor_at q) q.held.0 (omega (arith, dc, h.held, up, up', up'')),
          le-leb (cursor_at q) (sent_at q) (omega (arith, dc, ds, up, up')),
          le-leb (sent_at q) q.held.0 (omega (arith, ds, h.held, up, up', up'')),
          le-leb (acknowledged_at q) (cond (ltb 0 q.held.0) q.kept.0 0) inside_oldest,
          le-leb (acknowledged_at q) (sent_at q) (omega (arith, da, ds, l.past, l.freed)),
        )

    all : num f s.accepted - num f s.oldest ≡ q.held.0
    all = omega (arith, h.held)

    units : units_sound q store ≡ true
    unfolding units_sound
    units =
        let w = walk_at f store s q l h fo s.accepted (omega (arith, l.begun, l.behind, l.given)) (omega arith) in
        let c = walk_at f store s q l h fo s.cursor l.begun (omega (arith, l.behind, l.given)) in
        simp (← all, dc, w.border, w.sound, c.border)

    pub sound_right : sound q store ≡ true
    unfolding sound
    sound_right = simp (counts, numbers, units)

    -- the run length of the last control flit accepted
    pub last_run_is : (walked q store q.held.0).run ≡ owed f s.accepted
    last_run_is =
        let w = walk_at f store s q l h fo s.accepted (omega (arith, l.begun, l.behind, l.given)) (omega arith) in
        rw all at w.run
