-- The last unit border among the oldest flits: it lies at or before them, and on a border.
use mathlib.Core.Bool.{true, cond}
use mathlib.Core.List.{List}
use mathlib.Core.Path.{◌≡◌}
use Prim.Native.Nat.{ℕ, zero, suc, ◌+◌, ◌≤◌}
use native.Mathlib.Omega.{arith}
use native.Mathlib.Numerals.{add-one}
use Rattle.end_state.specs.Ring.{walk_over}
use Rattle.end_state.specs.declared.walk.Walk.{Walk}
use Rattle.std.proofs.lemmas.Bool.{cond_both}
use Rattle.receive_free.specs.Acknowledge.{last_border}

module _ (places first : ℕ) (w : Walk) (store : List ℕ) where
  -- by the code's steps
  pub border_step : (n : ℕ)
      → last_border places first w store (n + 1)
      ≡ cond (walk_over places first w store (n + 1)).border (n + 1) (last_border places first w store n)
  unfolding last_border
  border_step n = rw add-one

  pub border_within : (n : ℕ) → last_border places first w store n ≤ n
  unfolding last_border
  border_within zero = omega arith
  border_within (suc n) =
      let h = border_within n in
      cond_both (walk_over places first w store (suc n)).border (suc n) (last_border places first w store n) (λ (m : ℕ). m ≤ suc n)
      (λ t. omega arith) (λ t. omega arith)

  pub border_found : w.border ≡ true → (n : ℕ) → (walk_over places first w store (last_border places first w store n)).border ≡ true
  unfolding last_border walk_over
  border_found b zero = b
  border_found b (suc n) =
      cond_both (walk_over places first w store (suc n)).border (suc n) (last_border places first w store n) (λ (m : ℕ). (walk_over places first w store m).border ≡ true) (λ t. t) (λ t. border_found b n)
