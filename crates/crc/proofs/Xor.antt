-- Exclusive or on numbers: what lib.Bits leaves out. The numbers are a group in which each is its own inverse, a shift goes through, and
-- the lowest bit of a sum is the sum of the lowest bits.
use mathlib.Core.Path.{◌≡◌, refl, sym, ap, ap₂, ◌∙◌}
use mathlib.Core.Bool.{Bool, true, false}
use Prim.Native.Nat.{ℕ, zero, suc, ◌+◌, ◌*◌, ◌/◌, ◌%◌, ◌^◌, ◌<◌}
use native.Mathlib.Nat.{mod-lt, zero-lt-suc, add-zero}
use native.Mathlib.Omega.{arith}
use lib.Arith.{bin_ind, digits_mod}
use lib.Pow.{pow_pos}
use lib.Bits.{bit_xor, differ, xor_step, xor_zero_r, xor_comm, xor_self, xor_shr, xor_block}
use Rattle.crc.specs.Poly.{xor}
use Rattle.crc.specs.Unit.{odd, is_one}
use Rattle.crc.specs.Register.{bit_value}

infixl 60 ◌⊕◌
abbrev pub ◌⊕◌ : ℕ → ℕ → ℕ
a ⊕ b = bit_xor a b

pub two_pos : 0 < 2
two_pos = zero-lt-suc 1

pub xor_half : (a b : ℕ) → (a ⊕ b) / 2 ≡ (a / 2) ⊕ (b / 2)
xor_half a b = xor_shr a b 1

differ_lt : (x y : ℕ) → x < 2 → y < 2 → differ x y < 2
differ_lt zero y hx hy = hy
differ_lt (suc zero) zero hx hy = hx
differ_lt (suc zero) (suc zero) hx hy = two_pos
differ_lt (suc zero) (suc (suc y)) hx hy = omega arith
differ_lt (suc (suc x)) y hx hy = omega arith

xor_low : (a b : ℕ) → (a ⊕ b) % 2 ≡ differ (a % 2) (b % 2)
xor_low a b =
    ap (λ (x : ℕ). x % 2) (xor_step a b)
    ∙ digits_mod ((a / 2) ⊕ (b / 2)) (differ_lt (a % 2) (b % 2) (mod-lt a two_pos) (mod-lt b two_pos))

differ_assoc : (x y z : ℕ) → x < 2 → y < 2 → z < 2 → differ (differ x y) z ≡ differ x (differ y z)
differ_assoc zero y z hx hy hz = refl
differ_assoc (suc zero) zero z hx hy hz = refl
differ_assoc (suc zero) (suc zero) zero hx hy hz = refl
differ_assoc (suc zero) (suc zero) (suc zero) hx hy hz = refl
differ_assoc (suc zero) (suc zero) (suc (suc z)) hx hy hz = omega arith
differ_assoc (suc zero) (suc (suc y)) z hx hy hz = omega arith
differ_assoc (suc (suc x)) y z hx hy hz = omega arith

pub xor_assoc : (a b c : ℕ) → a ⊕ b ⊕ c ≡ a ⊕ (b ⊕ c)
xor_assoc =
    bin_ind (λ (n : ℕ). (b c : ℕ) → n ⊕ b ⊕ c ≡ n ⊕ (b ⊕ c)) (λ b c. refl)
    (λ n ih b c.
    xor_step (n ⊕ b) c
    ∙ ap₂ (λ (x y : ℕ). x * 2 + y)
    (ap (λ (x : ℕ). x ⊕ (c / 2)) (xor_half n b) ∙ ih (b / 2) (c / 2) ∙ ap (λ (x : ℕ). (n / 2) ⊕ x) (sym (xor_half b c)))
    (ap (λ (x : ℕ). differ x (c % 2)) (xor_low n b)
    ∙ differ_assoc (n % 2) (b % 2) (c % 2) (mod-lt n two_pos) (mod-lt b two_pos) (mod-lt c two_pos)
    ∙ ap (λ (x : ℕ). differ (n % 2) x) (sym (xor_low b c)))
    ∙ sym (xor_step n (b ⊕ c)))

pub exchange : (a b c d : ℕ) → (a ⊕ b) ⊕ (c ⊕ d) ≡ (a ⊕ c) ⊕ (b ⊕ d)
exchange a b c d =
    xor_assoc a b (c ⊕ d)
    ∙ ap (λ (x : ℕ). a ⊕ x) (sym (xor_assoc b c d) ∙ ap (λ (x : ℕ). x ⊕ d) (xor_comm b c) ∙ xor_assoc c b d)
    ∙ sym (xor_assoc a c (b ⊕ d))

-- equal exactly when their sum is nothing
pub same_of_zero : (a b : ℕ) → a ⊕ b ≡ 0 → a ≡ b
same_of_zero a b e =
    sym (xor_zero_r a) ∙ ap (λ (x : ℕ). a ⊕ x) (sym (xor_self b)) ∙ sym (xor_assoc a b b) ∙ ap (λ (x : ℕ). x ⊕ b) e

-- a shift
pub xor_shl : (a b k : ℕ) → (a ⊕ b) * 2 ^ k ≡ (a * 2 ^ k) ⊕ (b * 2 ^ k)
xor_shl a b k =
    sym (add-zero ((a ⊕ b) * 2 ^ k)) ∙ sym (xor_block k a b 0 0 (pow_pos k) (pow_pos k))
    ∙ ap₂ bit_xor (add-zero (a * 2 ^ k)) (add-zero (b * 2 ^ k))

-- the lowest bit
is_one_differ : (x y : ℕ) → x < 2 → y < 2 → is_one (differ x y) ≡ xor (is_one x) (is_one y)
is_one_differ zero y hx hy = refl
is_one_differ (suc zero) zero hx hy = refl
is_one_differ (suc zero) (suc zero) hx hy = refl
is_one_differ (suc zero) (suc (suc y)) hx hy = absurd (omega arith)
is_one_differ (suc (suc x)) y hx hy = absurd (omega arith)

pub odd_xor : (a b : ℕ) → odd (a ⊕ b) ≡ xor (odd a) (odd b)
odd_xor a b = ap is_one (xor_low a b) ∙ is_one_differ (a % 2) (b % 2) (mod-lt a two_pos) (mod-lt b two_pos)

digit_is_one : (x : ℕ) → x < 2 → bit_value (is_one x) ≡ x
digit_is_one zero h = refl
digit_is_one (suc zero) h = refl
digit_is_one (suc (suc x)) h = omega arith

pub digit_odd : (n : ℕ) → bit_value (odd n) ≡ n % 2
digit_odd n = digit_is_one (n % 2) (mod-lt n two_pos)

pub digit_lt : (b : Bool) → bit_value b < 2
digit_lt true = omega arith
digit_lt false = omega arith
