-- What an admitted call says of the refusals that it was tested for.
use mathlib.Core.Bool.{Bool, true, false, cond}
use mathlib.Core.Path.{◌≡◌, refl}
use Rattle.std.specs.Prelude.{Result, Ok, Err}
use Prim.Native.Nat.{ℕ}
use native.Mathlib.Omega.{arith}
use Rattle.end_state.specs.declared.Refusal.{Refusal}

-- past a refusal whose test does not hold
pub record Past {A : Type 0} (b : Bool) (v : Result A Refusal) (a : A) : Type 0 where
  pub test : b ≡ false
  pub rest : v ≡ Ok a

pub past : {A : Type 0} (b : Bool) (r : Refusal) (v : Result A Refusal) (a : A) → cond b (Err r) v ≡ Ok a → Past b v a
past true r v a h = let z : ◌≡◌ {A = ℕ} 0 1 = cc in absurd (omega arith)
past false r v a h = record { test = refl; rest = h }
