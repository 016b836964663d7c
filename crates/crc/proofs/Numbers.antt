-- Polynomials as lists and as numbers: a list of known length is known by its number, a sum is an exclusive or, and long division of a
-- list is so many places of its number.
use mathlib.Core.Path.{◌≡◌, refl, sym, ap, ap₂, ◌∙◌, subst}
use mathlib.Core.Bool.{Bool, true, false, false≢true}
use mathlib.Core.List.{List, [], ◌∷◌, ◌++◌}
use Prim.Native.Nat.{ℕ, zero, suc, ◌+◌, ◌*◌, ◌/◌, ◌%◌, ◌^◌, ◌<◌}
use native.Mathlib.Nat.{mul_assoc, pow-suc, mul-one, add-zero, mod-one}
use native.Mathlib.Numerals.{add-one}
use native.Mathlib.Omega.{arith}
use lib.Arith.{digits_div, digits_mod}
use lib.Pow.{mod-pow-add}
use lib.ListN.{length, replicate}
use lib.Bits.{xor_zero_r, xor_comm, xor_block}
use Rattle.crc.specs.Poly.{xor, plus, scale, divide, remainder}
use Rattle.crc.specs.Unit.{odd, is_one, bits_of, all_zero}
use Rattle.crc.specs.Register.{bit_value, bits_number, pick, places}
use Rattle.crc.proofs.Xor.{◌⊕◌, digit_odd, digit_lt}
use Rattle.crc.proofs.Places.{places_zero}

digit_xor : (x y : Bool) → bit_value x ⊕ bit_value y ≡ bit_value (xor x y)
digit_xor false y = refl
digit_xor true false = refl
digit_xor true true = refl

pub number_plus : (u v : List Bool) → bits_number (plus u v) ≡ bits_number u ⊕ bits_number v
number_plus [] v = refl
number_plus (x ∷ u) [] = sym (xor_zero_r (bits_number (x ∷ u)))
number_plus (x ∷ u) (y ∷ v) =
    ap₂ (λ (p q : ℕ). p * 2 + q) (number_plus u v) (sym (digit_xor x y))
    ∙ sym (xor_block 1 (bits_number u) (bits_number v) (bit_value x) (bit_value y) (digit_lt x) (digit_lt y))

pub number_scale : (h : Bool) (p : List Bool) → bits_number (scale h p) ≡ pick h (bits_number p)
number_scale true [] = refl
number_scale false [] = refl
number_scale true (x ∷ p) = ap (λ (n : ℕ). n * 2 + bit_value x) (number_scale true p)
number_scale false (x ∷ p) = ap (λ (n : ℕ). n * 2 + 0) (number_scale false p)

pub half_number : (h : Bool) (u : List Bool) → bits_number (h ∷ u) / 2 ≡ bits_number u
half_number h u = digits_div (bits_number u) (digit_lt h)

is_one_digit : (h : Bool) → is_one (bit_value h) ≡ h
is_one_digit true = refl
is_one_digit false = refl

pub odd_number : (h : Bool) (u : List Bool) → odd (bits_number (h ∷ u)) ≡ h
odd_number h u = ap is_one (digits_mod (bits_number u) (digit_lt h)) ∙ is_one_digit h

pub number_divide : (low : List Bool) (n : ℕ) (u : List Bool) → bits_number (divide low n u) ≡ places (bits_number low) n (bits_number u)
number_divide low zero u = refl
number_divide low (suc n) [] = sym (places_zero (bits_number low) (suc n))
number_divide low (suc n) (h ∷ u) =
    number_divide low n (plus (scale h low) u)
    ∙ ap (places (bits_number low) n)
    (number_plus (scale h low) u ∙ ap (λ (x : ℕ). x ⊕ bits_number u) (number_scale h low) ∙ xor_comm (pick h (bits_number low)) (bits_number u)
    ∙ sym (ap₂ (λ (x : ℕ) (y : Bool). x ⊕ pick y (bits_number low)) (half_number h u) (odd_number h u)))

pub number_zeros : (n : ℕ) (u : List Bool) → bits_number (replicate n false ++ u) ≡ bits_number u * 2 ^ n
number_zeros zero u = sym (mul-one (bits_number u))
number_zeros (suc n) u =
    add-zero (bits_number (replicate n false ++ u) * 2) ∙ ap (λ (x : ℕ). x * 2) (number_zeros n u)
    ∙ mul_assoc (bits_number u) (2 ^ n) 2 ∙ ap (λ (x : ℕ). bits_number u * x) (sym (pow-suc 2 n))

-- the remainder is the number with room for it, after as many places as u has coefficients
pub number_remainder : (low u : List Bool) → bits_number (remainder (true ∷ low) u) ≡ places (bits_number low) (length u) (bits_number u * 2 ^ length low)
number_remainder low u =
    number_divide low (length u) (replicate (length low) false ++ u)
    ∙ ap (places (bits_number low) (length u)) (number_zeros (length low) u)

pub number_bits_of : (k n : ℕ) → bits_number (bits_of k n) ≡ n % 2 ^ k
number_bits_of zero n = sym (mod-one n)
number_bits_of (suc k) n =
    ap₂ (λ (x y : ℕ). x * 2 + y) (number_bits_of k (n / 2)) (digit_odd n)
    ∙ sym (mod-pow-add n k 1) ∙ ap (λ (x : ℕ). n % 2 ^ x) (add-one k)

pub length_bits_of : (k n : ℕ) → length (bits_of k n) ≡ k
length_bits_of zero n = refl
length_bits_of (suc k) n = ap suc (length_bits_of k (n / 2))

pub number_append : (u v : List Bool) → bits_number (u ++ v) ≡ bits_number v * 2 ^ length u + bits_number u
number_append [] v = sym (add-zero (bits_number v * 1) ∙ mul-one (bits_number v))
number_append (x ∷ u) v =
    ap (λ (n : ℕ). n * 2 + bit_value x) (number_append u v) ∙ regroup (bits_number v) (2 ^ length u) (bits_number u) (bit_value x)
    ∙ ap (λ (n : ℕ). bits_number v * n + bits_number (x ∷ u)) (sym (pow-suc 2 (length u)))
  where
    regroup : (v p u d : ℕ) → (v * p + u) * 2 + d ≡ v * (p * 2) + (u * 2 + d)
    regroup v p u d = omega (arith, mul_assoc v p 2)

-- zeros after the last coefficient
pub trailing : (w : List Bool) (c : ℕ) → bits_number (w ++ replicate c false) ≡ bits_number w
trailing [] zero = refl
trailing [] (suc c) = ap (λ (x : ℕ). x * 2 + 0) (trailing [] c)
trailing (b ∷ w) c = ap (λ (x : ℕ). x * 2 + bit_value b) (trailing w c)

pub number_lt : (w : List Bool) → bits_number w < 2 ^ length w
number_lt [] = omega arith
number_lt (b ∷ w) =
    let h : bits_number w < 2 ^ length w = number_lt w in
    let d : bit_value b < 2 = digit_lt b in
    subst (λ (x : ℕ). bits_number (b ∷ w) < x) (sym (pow-suc 2 (length w))) (omega arith)

-- lists of one length are equal when their numbers are
pub number_inj : (u v : List Bool) → length u ≡ length v → bits_number u ≡ bits_number v → u ≡ v
number_inj [] [] l e = refl
number_inj [] (y ∷ v) l e = absurd (omega arith)
number_inj (x ∷ u) [] l e = absurd (omega arith)
number_inj (x ∷ u) (y ∷ v) l e =
    ap₂ {C = List Bool} (λ (h : Bool) (t : List Bool). h ∷ t)
    (sym (odd_number x u) ∙ ap odd e ∙ odd_number y v)
    (number_inj u v (omega arith) (sym (half_number x u) ∙ ap (λ (n : ℕ). n / 2) e ∙ half_number y v))

-- all coefficients are 0 exactly when the number is
pub zero_number : (u : List Bool) → all_zero u ≡ true → bits_number u ≡ 0
zero_number [] e = refl
zero_number (true ∷ u) e = absurd (false≢true e)
zero_number (false ∷ u) e = ap (λ (n : ℕ). n * 2 + 0) (zero_number u e)

pub number_zero : (u : List Bool) → bits_number u ≡ 0 → all_zero u ≡ true
number_zero [] e = refl
number_zero (true ∷ u) e = absurd (omega arith)
number_zero (false ∷ u) e = number_zero u (omega arith)
