-- The places of the ring. Two flits of one round lie at two places; a flit written to a place is what stands there, and no other
-- place changes; a walk sees only the flits that it passes.
use mathlib.Core.Bool.{Bool, true, false}
use mathlib.Core.List.{List, ◌++◌, append_assoc}
use mathlib.Core.Path.{◌≡◌, refl, sym, ap, ap₂, ◌∙◌, subst}
use Prim.Native.Nat.{ℕ, zero, suc, ◌+◌, ◌-◌, ◌*◌, ◌<◌, ◌≤◌}
use native.Mathlib.Omega.{arith}
use borrow.Author.Tests.{ltb-true, ltb-false, lt-ltb, le-ltb}
use lib.Dec.{ltb}
use lib.ListN.{length, take, drop, take-append-drop, length-append, length-drop}
use lib.Seq.{length-take-le, take-append-le, drop-append-le, take_at, drop_at, drop-drop}
use Rattle.end_state.specs.Ring.{flit_at, put_at, ring_place, passed, walk_over}
use Rattle.end_state.specs.declared.walk.Walk.{Walk}

-- before the ring's end, and past it
pub place_low : (places first n : ℕ) → first + n < places → ring_place places first n ≡ first + n
unfolding ring_place
place_low places first n h = simp (lt-ltb (first + n) places h)

pub place_high : (places first n : ℕ) → places ≤ first + n → ring_place places first n ≡ first + n - places
unfolding ring_place
place_high places first n h = simp (le-ltb (first + n) places h)

pub place_under : (places first n : ℕ) → first < places → n ≤ places → ring_place places first n < places
place_under places first n f h = go (ltb (first + n) places) refl
  where
    go : (b : Bool) → ltb (first + n) places ≡ b → ring_place places first n < places
    go true t = omega (arith, ltb-true (first + n) places t, place_low places first n (ltb-true (first + n) places t))
    go false t = omega (arith, ltb-false (first + n) places t, place_high places first n (ltb-false (first + n) places t))

-- two flits of one round lie at two places
pub same_place : (places first m n : ℕ) → first < places → m < places → n < places → ring_place places first m ≡ ring_place places first n → m ≡ n
same_place places first m n f h k e = go (ltb (first + m) places) refl (ltb (first + n) places) refl
  where
    go : (a : Bool) → ltb (first + m) places ≡ a → (b : Bool) → ltb (first + n) places ≡ b → m ≡ n
    go true s true t =
        let x = ltb-true (first + m) places s in
        let y = ltb-true (first + n) places t in
        omega (arith, place_low places first m x, place_low places first n y)
    go true s false t =
        let x = ltb-true (first + m) places s in
        let y = ltb-false (first + n) places t in
        omega (arith, place_low places first m x, place_high places first n y)
    go false s true t =
        let x = ltb-false (first + m) places s in
        let y = ltb-true (first + n) places t in
        omega (arith, place_high places first m x, place_low places first n y)
    go false s false t =
        let x = ltb-false (first + m) places s in
        let y = ltb-false (first + n) places t in
        omega (arith, place_high places first m x, place_high places first n y)

-- a flit of a store has 64 bytes
pub flit_length : (store : List ℕ) (p : ℕ) → p * 64 + 64 ≤ length store → length (flit_at store p) ≡ 64
unfolding flit_at
flit_length store p h = length-take-le 64 (drop (p * 64) store) (omega (arith, length-drop (p * 64) store))

-- a flit that lies in the front of a list
front_flit : (xs ys : List ℕ) (p : ℕ) → p * 64 + 64 ≤ length xs → flit_at (xs ++ ys) p ≡ flit_at xs p
unfolding flit_at
front_flit xs ys p h =
    ap (λ (z : List ℕ). take 64 z) (drop-append-le (p * 64) xs ys (omega arith))
    ∙ take-append-le 64 (drop (p * 64) xs) ys (omega (arith, length-drop (p * 64) xs))

-- a flit that lies in the back of two lists that agree there
back_flit : (xs ys : List ℕ) (a p : ℕ) → drop a xs ≡ drop a ys → a ≤ p * 64 → flit_at xs p ≡ flit_at ys p
unfolding flit_at
back_flit xs ys a p e h =
    let s : a + (p * 64 - a) ≡ p * 64 = omega arith in
    let x = drop-drop (p * 64 - a) a xs in
    let y = drop-drop (p * 64 - a) a ys in
    ap (λ (z : List ℕ). take 64 z) (subst (λ (n : ℕ). drop n xs ≡ drop n ys) s (sym x ∙ ap (λ (z : List ℕ). drop (p * 64 - a) z) e ∙ y))

module _ (store flit : List ℕ) (at : ℕ) (inside : at * 64 + 64 ≤ length store) (whole : length flit ≡ 64) where
  head_length : length (take (at * 64) store) ≡ at * 64
  head_length = length-take-le (at * 64) store (omega arith)

  pub put_length : length (put_at store at flit) ≡ length store
  unfolding put_at
  put_length =
      omega (
        arith,
        head_length,
        length-append (take (at * 64) store) (flit ++ drop (at * 64 + 64) store),
        length-append flit (drop (at * 64 + 64) store),
        length-drop (at * 64 + 64) store,
      )

  -- what is written to a place stands there
  pub flit_put_same : flit_at (put_at store at flit) at ≡ flit
  unfolding put_at flit_at
  flit_put_same =
      ap (λ (z : List ℕ). take 64 z) (drop_at (take (at * 64) store) (flit ++ drop (at * 64 + 64) store) (at * 64) head_length)
      ∙ take_at flit (drop (at * 64 + 64) store) 64 whole

  -- and no other place changes
  pub flit_put_other : (p : ℕ) → (p ≡ at → ⊥) → flit_at (put_at store at flit) p ≡ flit_at store p
  unfolding put_at
  flit_put_other p d = go (ltb p at) refl
    where
      go : (b : Bool) → ltb p at ≡ b → flit_at (put_at store at flit) p ≡ flit_at store p
      go true t =
          let l = ltb-true p at t in
          front_flit (take (at * 64) store) (flit ++ drop (at * 64 + 64) store) p (omega (arith, head_length))
          ∙ sym (front_flit (take (at * 64) store) (drop (at * 64) store) p (omega (arith, head_length)))
          ∙ ap (λ (z : List ℕ). flit_at z p) (take-append-drop (at * 64) store)
      go false t =
          let l = ltb-false p at t in
          back_flit (put_at store at flit) store (at * 64 + 64) p
          (ap (λ (z : List ℕ). drop (at * 64 + 64) z)
          (sym (append_assoc (take (at * 64) store) flit (drop (at * 64 + 64) store)))
          ∙ drop_at (take (at * 64) store ++ flit) (drop (at * 64 + 64) store) (at * 64 + 64)
          (omega (arith, head_length, length-append (take (at * 64) store) flit)))
          (omega arith)

-- a walk sees only the flits that it passes
pub walk_same : (places first : ℕ) (w : Walk) (s t : List ℕ) (n : ℕ)
    → ((i : ℕ) → i < n → flit_at s (ring_place places first i) ≡ flit_at t (ring_place places first i))
    → walk_over places first w s n ≡ walk_over places first w t n
unfolding walk_over
walk_same places first w s t zero h = refl
walk_same places first w s t (suc n) h =
    ap₂ (λ (f : List ℕ) (v : Walk). passed f v) (h n (omega arith)) (walk_same places first w s t n (λ i k. h i (omega arith)))
