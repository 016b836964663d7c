-- Sequence numbers stand for numbers without end: each is the rest by 2 ^ k, where k is the width. Two numbers less than 2 ^ k apart
-- have their difference back. The width of this edition, half of its numbers and the capacity stand together in `near`: no number in
-- use is further from another than the capacity, and that is under half.
use mathlib.Core.Path.{◌≡◌, refl, sym, ap, ◌∙◌}
use Prim.Native.Nat.{ℕ, ◌+◌, ◌-◌, ◌%◌, ◌^◌, ◌≤◌, ◌<◌}
use native.Mathlib.Nat.{mod-add-mod, mod-lt, add_comm, add-mod_right}
use native.Mathlib.Omega.{arith}
use lib.Pow.{pow_pos}
use Rattle.flit_number.specs.Numbers.{width, after, difference, Meaning, last_received}
use Rattle.flit_number.proofs.Laws.{difference_is}
use Rattle.receive_answer.specs.Answers.{half}

-- a number as it is kept
abbrev pub wrap : ℕ → ℕ
wrap n = n % 2 ^ width

-- what an acknowledge number names in this edition
abbrev pub meaning : Meaning
meaning = last_received

-- the most flits that an end holds
abbrev pub most : ℕ
most = 1024

pub near : (half + half ≡ 2 ^ width) × (most < half)
near = (refl, omega arith)

module _ (k : ℕ) where
  pub after_wrap : (a n : ℕ) → after k (a % 2 ^ k) n ≡ (a + n) % 2 ^ k
  unfolding after
  after_wrap a n = mod-add-mod a (2 ^ k) n

  back : (r a b : ℕ) → (r + b) % 2 ^ k ≡ a % 2 ^ k → (r + b % 2 ^ k) % 2 ^ k ≡ a % 2 ^ k
  back r a b h =
      ap (λ (x : ℕ). x % 2 ^ k) (add_comm r (b % 2 ^ k)) ∙ mod-add-mod b (2 ^ k) r ∙ ap (λ (x : ℕ). x % 2 ^ k) (add_comm b r) ∙ h

  -- the first not before the second
  pub difference_up : (a b : ℕ) → b ≤ a → a < b + 2 ^ k → difference k (a % 2 ^ k) (b % 2 ^ k) ≡ a - b
  difference_up a b h l =
      let p = pow_pos k in
      let m = mod-lt b (pow_pos k) in
      let e : a - b + b ≡ a = omega arith in
      sym (difference_is k (a - b) (a % 2 ^ k) (b % 2 ^ k) (omega arith) (omega arith) (back (a - b) a b (ap (λ (x : ℕ). x % 2 ^ k) e)))

  -- the first before the second
  pub difference_down : (a b : ℕ) → a < b → b ≤ a + 2 ^ k → difference k (a % 2 ^ k) (b % 2 ^ k) ≡ 2 ^ k - (b - a)
  difference_down a b h l =
      let p = pow_pos k in
      let m = mod-lt b (pow_pos k) in
      let r = 2 ^ k - (b - a) in
      let e : r + b ≡ a + 2 ^ k = omega arith in
      sym
      (difference_is k r (a % 2 ^ k) (b % 2 ^ k) (omega arith) (omega arith)
      (back r a b (ap (λ (x : ℕ). x % 2 ^ k) e ∙ add-mod_right a (2 ^ k))))
