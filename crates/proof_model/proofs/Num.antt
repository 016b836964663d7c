-- Numbers of flits grow with the numbers of units.
use mathlib.Core.Path.{◌≡◌}
use Prim.Native.Nat.{ℕ, zero, suc, ◌≤◌, ◌<◌}
use native.Mathlib.Omega.{arith}
use native.Mathlib.Decide.{dec_le}
use Rattle.proof_model.proofs.Stream.{Stream, num}

pub num_le : (f : Stream) (i j : ℕ) → i ≤ j → num f i ≤ num f j
num_le f i zero h = let e : i ≡ 0 = omega arith in rw e (omega arith)
num_le f i (suc j) h = go (dec_le i j) (num_le f i j)
  where
    go : Dec (i ≤ j) → (i ≤ j → num f i ≤ num f j) → num f i ≤ num f (suc j)
    go (yes p) ih = let q : num f i ≤ num f j = ih p in omega arith
    go (no p) ih = let e : i ≡ suc j = omega arith in rw e (omega arith)

pub num_lt : (f : Stream) (i j : ℕ) → i < j → num f i < num f j
num_lt f i j h = let q : num f (suc i) ≤ num f j = num_le f (suc i) j h in omega arith

pub num_of_le : (f : Stream) (i j : ℕ) → num f i ≤ num f j → i ≤ j
num_of_le f i j h = go (dec_le i j)
  where
    go : Dec (i ≤ j) → i ≤ j
    go (yes p) = p
    go (no p) = let q : num f j < num f i = num_lt f j i (omega arith) in absurd (omega arith)
