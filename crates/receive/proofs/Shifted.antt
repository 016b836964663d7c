-- The ring from a later place: the place n after the place b after the first is the place b + n after it, so that the walk from a
-- border on is the walk over the whole from there; and past the last border there is none.
use mathlib.Core.Bool.{Bool, true, false, cond}
use mathlib.Core.List.{List}
use mathlib.Core.Path.{◌≡◌, refl, sym, ap, ap₂, ◌∙◌}
use Prim.Native.Nat.{ℕ, zero, suc, ◌+◌, ◌-◌, ◌<◌, ◌≤◌}
use native.Mathlib.Omega.{arith}
use native.Mathlib.Nat.{add-suc, add-zero, add_assoc}
use borrow.Author.Tests.{ltb-true, ltb-false}
use lib.Dec.{ltb}
use Rattle.end_state.specs.Ring.{flit_at, ring_place, walk_begun, passed, walk_over}
use Rattle.end_state.specs.declared.walk.Walk.{Walk}
use Rattle.end_state.proofs.Places.{place_low, place_high}
use Rattle.receive_free.specs.Acknowledge.{last_border}

pub place_place : (places first b n : ℕ) → first < places → b + n ≤ places
    → ring_place places (ring_place places first b) n ≡ ring_place places first (b + n)
place_place places first b n f h = go (ltb (first + b) places) refl (ltb (first + (b + n)) places) refl
  where
    go : (s : Bool) → ltb (first + b) places ≡ s → (t : Bool) → ltb (first + (b + n)) places ≡ t
        → ring_place places (ring_place places first b) n ≡ ring_place places first (b + n)
    go true s true t =
        let x = ltb-true (first + b) places s in
        let y = ltb-true (first + (b + n)) places t in
        ap (λ (p : ℕ). ring_place places p n) (place_low places first b x) ∙ place_low places (first + b) n (omega arith)
        ∙ add_assoc first b n
        ∙ sym (place_low places first (b + n) y)
    go true s false t =
        let x = ltb-true (first + b) places s in
        let y = ltb-false (first + (b + n)) places t in
        ap (λ (p : ℕ). ring_place places p n) (place_low places first b x)
        ∙ omega (arith, place_high places (first + b) n (omega arith), place_high places first (b + n) y)
    go false s true t =
        let x = ltb-false (first + b) places s in
        let y = ltb-true (first + (b + n)) places t in
        absurd (omega arith)
    go false s false t =
        let x = ltb-false (first + b) places s in
        let y = ltb-false (first + (b + n)) places t in
        let p = place_high places first b x in
        ap (λ (p : ℕ). ring_place places p n) p
        ∙ omega (arith, p, place_low places (first + b - places) n (omega arith), place_high places first (b + n) y)

-- one flit more: on a border that is the last one, else the last one is as before
step : (W : ℕ → Bool) (n m l : ℕ) (b : Bool) → W (suc n) ≡ b → cond b (suc n) l < m → m ≤ suc n → (l < m → m ≤ n → W m ≡ false)
    → W m ≡ false
step W n m l true t h k f = absurd (omega arith)
step W n m l false t h k f = go (ltb n m) refl
  where
    go : (x : Bool) → ltb n m ≡ x → W m ≡ false
    go true x =
        let a = ltb-true n m x in
        let z : m ≡ suc n = omega arith in
        ap W z ∙ t
    go false x = f h (ltb-false n m x)

module _ (places first : ℕ) (w : Walk) (store : List ℕ) where
  pub walk_on : (b n : ℕ) → first < places → b + n ≤ places
      → walk_over places (ring_place places first b) (walk_over places first w store b) store n ≡ walk_over places first w store (b + n)
  unfolding walk_over
  walk_on b zero f h = ap (λ (m : ℕ). walk_over places first w store m) (sym (add-zero b))
  walk_on b (suc n) f h =
      ap₂ (λ (p : ℕ) (v : Walk). passed (flit_at store p) v) (place_place places first b n f (omega arith)) (walk_on b n f (omega arith))
      ∙ ap (λ (m : ℕ). walk_over places first w store m) (sym (add-suc b n))

  -- no border past the last one
  pub border_last : (n m : ℕ) → last_border places first w store n < m → m ≤ n → (walk_over places first w store m).border ≡ false
  unfolding last_border
  border_last zero m h k = absurd (omega arith)
  border_last (suc n) m h k =
      step (λ (i : ℕ). (walk_over places first w store i).border) n m (last_border places first w store n) (walk_over places first w store (suc n)).border refl h k
      (border_last n m)

-- a walk on a border, sound so far, is one that begins there
begins_by : (l r : ℕ) (b s : Bool) → l ≡ r → b ≡ true → s ≡ true → ◌≡◌ {A = Walk} (record { left = l; run = r; border = b; sound = s }) (walk_begun r)
unfolding walk_begun
begins_by l r b s h k m = cc

pub begins : (w : Walk) → w.left ≡ w.run → w.border ≡ true → w.sound ≡ true → w ≡ walk_begun w.run
begins w h k m = begins_by w.left w.run w.border w.sound h k m
