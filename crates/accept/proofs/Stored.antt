-- What an admitted call of accept does to the store: the unit's flits stand in order at the places after the held flits, every
-- other place is as it was, and the store is as long as it was.
use mathlib.Core.Bool.{Bool, true, false}
use mathlib.Core.List.{List}
use mathlib.Core.Path.{◌≡◌, refl, sym, ap, ap₂, ◌∙◌, subst}
use Prim.Native.Nat.{ℕ, zero, suc, ◌+◌, ◌-◌, ◌*◌, ◌<◌, ◌≤◌}
use native.Mathlib.Omega.{arith}
use borrow.Author.Tests.{eqb-true, eqb-false}
use lib.Dec.{eqb}
use lib.ListN.{length, take, drop, length-drop}
use lib.Seq.{take_all}
use Rattle.end_state.specs.Update.{with_held}
use Rattle.end_state.specs.Ring.{flit_at, put_at, ring_place, stored}
use Rattle.std.specs.Prelude.{Ok}
use Rattle.end_state.specs.declared.End.{End}
use Rattle.end_state.proofs.Places.{place_under, same_place, flit_length, put_length, flit_put_same, flit_put_other}
use Rattle.accept_verdict.specs.Admission.{flits_of, control_of, accept_verdict}
use Rattle.accept_verdict.proofs.Admitted.{Admission, admission}
use Rattle.accept.specs.Accept.{flits_stored, accept, accept_store}

-- the first n flits of a unit, written to their places
module _
    (places first held : ℕ) (store unit : List ℕ) (flits : ℕ)
    (size : length store ≡ places * 64) (inside : first < places) (room : held + flits ≤ places) (whole : length unit ≡ flits * 64)
  where
    abbrev now : ℕ → List ℕ
    now n = flits_stored places first held store unit n

    abbrev new : ℕ → ℕ
    new i = ring_place places first (held + i)

    under : (i : ℕ) → i < flits → new i < places
    under i h = place_under places first (held + i) inside (omega arith)

    pub written_length : (n : ℕ) → n ≤ flits → length (now n) ≡ length store
    unfolding flits_stored
    written_length zero h = refl
    written_length (suc n) h =
        let l = written_length n (omega arith) in
        let u = under n (omega arith) in
        put_length (now n) (flit_at unit n) (new n) (omega arith) (flit_length unit n (omega arith)) ∙ l

    -- a place that is not one of the unit's
    pub written_other : (n p : ℕ) → n ≤ flits → ((i : ℕ) → i < n → p ≡ new i → ⊥) → flit_at (now n) p ≡ flit_at store p
    unfolding flits_stored
    written_other zero p h d = refl
    written_other (suc n) p h d =
        let l = written_length n (omega arith) in
        let u = under n (omega arith) in
        flit_put_other (now n) (flit_at unit n) (new n) (omega arith) (flit_length unit n (omega arith)) p (d n (omega arith))
        ∙ written_other n p (omega arith) (λ i k. d i (omega arith))

    -- the unit's places
    more : (n i : ℕ) → suc n ≤ flits → i < suc n → (i < n → flit_at (now n) (new i) ≡ flit_at unit i)
        → flit_at (put_at (now n) (new n) (flit_at unit n)) (new i) ≡ flit_at unit i
    more n i h k before = go (eqb i n) refl
      where
        fits : new n * 64 + 64 ≤ length (now n)
        fits = omega (arith, written_length n (omega arith), under n (omega arith))

        long : length (flit_at unit n) ≡ 64
        long = flit_length unit n (omega arith)

        apart : i < n → new i ≡ new n → ⊥
        apart y e = omega (arith, same_place places first (held + i) (held + n) inside (omega arith) (omega arith) e)

        go : (b : Bool) → eqb i n ≡ b → flit_at (put_at (now n) (new n) (flit_at unit n)) (new i) ≡ flit_at unit i
        go true t =
            subst (λ (j : ℕ). flit_at (put_at (now n) (new n) (flit_at unit n)) (new j) ≡ flit_at unit j) (sym (eqb-true i n t))
            (flit_put_same (now n) (flit_at unit n) (new n) fits long)
        go false t =
            let x = eqb-false i n t in
            let y : i < n = omega arith in
            flit_put_other (now n) (flit_at unit n) (new n) fits long (new i) (apart y) ∙ before y

    pub written_at : (n i : ℕ) → n ≤ flits → i < n → flit_at (now n) (new i) ≡ flit_at unit i
    unfolding flits_stored
    written_at zero i h k = absurd (omega arith)
    written_at (suc n) i h k = more n i h k (λ y. written_at n i (omega arith) y)

-- the state and the store after an admitted call
pub admitted_end : (e : End) (store unit : List ℕ) → accept_verdict e store unit ≡ Ok tt
    → (accept e store unit).end ≡ with_held (e.held.0 + flits_of unit) e
unfolding accept
admitted_end e store unit h = simp h

pub admitted_store : (e : End) (store unit : List ℕ) → accept_verdict e store unit ≡ Ok tt
    → accept_store e store unit ≡ flits_stored e.capacity.0 e.first e.held.0 store unit (flits_of unit)
unfolding accept_store
admitted_store e store unit h = simp h

-- the unit's last flit is its control flit
pub last_flit : (unit : List ℕ) → length unit ≡ flits_of unit * 64 → 1 ≤ flits_of unit → flit_at unit (flits_of unit - 1) ≡ control_of unit
unfolding flit_at
last_flit unit h k =
    let a : (flits_of unit - 1) * 64 ≡ length unit - 64 = omega arith in
    ap (λ (n : ℕ). take 64 (drop n unit)) a ∙ take_all 64 (drop (length unit - 64) unit) (omega (arith, length-drop (length unit - 64) unit))

module _ (e : End) (store unit : List ℕ) (admitted : accept_verdict e store unit ≡ Ok tt) where
  facts : Admission e store unit
  facts = admission e store unit admitted

  -- the store is as long as it was
  pub length_kept : length (accept_store e store unit) ≡ length store
  length_kept =
      let f = facts in
      ap length (admitted_store e store unit admitted)
      ∙ written_length e.capacity.0 e.first e.held.0 store unit (flits_of unit) f.stored.whole f.state.counts.first f.room
      f.shape.whole (flits_of unit) (omega arith)

  -- no place changes but those of the new unit
  pub only_new_places : (p : ℕ) → ((i : ℕ) → i < flits_of unit → p ≡ ring_place e.capacity.0 e.first (e.held.0 + i) → ⊥)
      → flit_at (accept_store e store unit) p ≡ flit_at store p
  only_new_places p d =
      let f = facts in
      ap (λ (s : List ℕ). flit_at s p) (admitted_store e store unit admitted)
      ∙ written_other e.capacity.0 e.first e.held.0 store unit (flits_of unit) f.stored.whole f.state.counts.first f.room
      f.shape.whole (flits_of unit) p (omega arith) d

  -- what was stored is held in order
  pub stored_in_order : (i : ℕ) → i < flits_of unit
      → stored (accept e store unit).end (accept_store e store unit) (e.held.0 + i) ≡ flit_at unit i
  stored_in_order i h =
      let f = facts in
      ap₂ (λ (a : End) (s : List ℕ). stored a s (e.held.0 + i)) (admitted_end e store unit admitted) (admitted_store e store unit admitted)
      ∙ written_at e.capacity.0 e.first e.held.0 store unit (flits_of unit) f.stored.whole f.state.counts.first f.room
      f.shape.whole (flits_of unit) i (omega arith) h

  -- and what was held before is held as it was
  pub stored_before : (n : ℕ) → n < e.held.0
      → stored (accept e store unit).end (accept_store e store unit) n ≡ stored e store n
  stored_before n h =
      let f = facts in
      ap (λ (a : End). stored a (accept_store e store unit) n) (admitted_end e store unit admitted)
      ∙ only_new_places (ring_place e.capacity.0 e.first n) (apart f)
    where
      apart : Admission e store unit → (i : ℕ) → i < flits_of unit
          → ring_place e.capacity.0 e.first n ≡ ring_place e.capacity.0 e.first (e.held.0 + i) → ⊥
      apart f i k d =
          omega (
            arith,
            same_place e.capacity.0 e.first n (e.held.0 + i) f.state.counts.first (omega (arith, f.room))
                (omega (arith, f.room)) d,
          )
