-- Long division tells whether a polynomial divides: for every polynomial p whose first coefficient is 1, p divides u exactly when the
-- remainder is nothing. One way, a place takes the first row of a product away, so all places take all of it. The other way, the bits that
-- go out of the register are the quotient. Last, the check's polynomial: `right` decides `Right`, for every list.
use mathlib.Core.Path.{◌≡◌, refl, sym, ap, ap₂, ◌∙◌, subst}
use mathlib.Core.Bool.{Bool, true, false, ◌&&◌, true≢false}
use mathlib.Core.Logic.{◌↔◌}
use mathlib.Core.List.{List, [], ◌∷◌, ◌++◌}
use Prim.Native.Nat.{ℕ, zero, suc, ◌+◌, ◌*◌, ◌/◌, ◌^◌, ◌≤◌}
use native.Mathlib.Nat.{div-add-mod', add-zero, mul_right_comm, not-suc-le-zero, le_of_suc-le-suc, zero-mul}
use native.Mathlib.Omega.{arith}
use lib.Dec.{eqb}
use borrow.Author.Tests.{eq-eqb, ne_eqb}
use lib.ListN.{length, length-map, length-append, length-replicate, replicate}
use lib.Bits.{bit_xor, xor_zero_r, xor_comm, xor_self, xor_block}
use Rattle.crc.specs.Poly.{plus, scale, times, Divides, remainder}
use Rattle.crc.specs.Unit.{odd, bits, powers, coefficients, polynomial, IsRight, right, all_zero}
use Rattle.crc.specs.Register.{bit_value, bits_number, pick, place, places, generator}
use Rattle.crc.proofs.Xor.{◌⊕◌, xor_assoc, digit_odd, digit_lt}
use Rattle.crc.proofs.Places.{place_xor, place_double, places_shift, places_add}
use Rattle.crc.proofs.Numbers.{number_plus, number_scale, half_number, odd_number, number_zeros, number_remainder, number_inj, zero_number, number_zero}

-- ---- the length of a product

plus_left : (u v : List Bool) → length v ≤ length u → length (plus u v) ≡ length u
plus_left [] [] h = refl
plus_left [] (y ∷ v) h = absurd (not-suc-le-zero h)
plus_left (x ∷ u) [] h = refl
plus_left (x ∷ u) (y ∷ v) h = ap suc (plus_left u v (le_of_suc-le-suc h))

pub plus_right : (u v : List Bool) → length u ≤ length v → length (plus u v) ≡ length v
plus_right [] v h = refl
plus_right (x ∷ u) [] h = absurd (not-suc-le-zero h)
plus_right (x ∷ u) (y ∷ v) h = ap suc (plus_right u v (le_of_suc-le-suc h))

length_times : (h : Bool) (q : List Bool) (c : Bool) (p : List Bool) → length (times (h ∷ q) (c ∷ p)) ≡ length q + suc (length p)
length_times h [] c p =
    let l : length (scale h (c ∷ p)) ≡ suc (length p) = length-map (c ∷ p) (λ x. h && x) in
    plus_left (scale h (c ∷ p)) (false ∷ []) (omega arith) ∙ omega arith
length_times h (k ∷ q) c p =
    let l : length (scale h (c ∷ p)) ≡ suc (length p) = length-map (c ∷ p) (λ x. h && x) in
    let m : length (times (k ∷ q) (c ∷ p)) ≡ length q + suc (length p) = length_times k q c p in
    plus_right (scale h (c ∷ p)) (false ∷ times (k ∷ q) (c ∷ p)) (omega arith) ∙ omega arith

length_zeros : (z : ℕ) (u : List Bool) → length (replicate z false ++ u) ≡ z + length u
length_zeros z u = length-append (replicate z false) u ∙ ap (λ (n : ℕ). n + length u) (length-replicate z false)

-- ---- for any polynomial with first coefficient 1

module _ (low : List Bool) where
  first_row : (h : Bool) → place (bits_number low) (pick h (bits_number (true ∷ low))) ≡ 0
  first_row false = refl
  first_row true =
      ap₂ (λ (x : ℕ) (y : Bool). x ⊕ pick y (bits_number low)) (half_number true low) (odd_number true low) ∙ xor_self (bits_number low)

  number_times : (h : Bool) (q : List Bool)
      → bits_number (times (h ∷ q) (true ∷ low)) ≡ pick h (bits_number (true ∷ low)) ⊕ (bits_number (times q (true ∷ low)) * 2)
  number_times h q =
      number_plus (scale h (true ∷ low)) (false ∷ times q (true ∷ low))
      ∙ ap₂ bit_xor (number_scale h (true ∷ low)) (add-zero (bits_number (times q (true ∷ low)) * 2))

  places_times : (q : List Bool) → places (bits_number low) (length q) (bits_number (times q (true ∷ low))) ≡ 0
  places_times [] = refl
  places_times (h ∷ q) =
      ap (λ (x : ℕ). places (bits_number low) (length q) (place (bits_number low) x)) (number_times h q)
      ∙ ap (places (bits_number low) (length q))
      (place_xor (bits_number low) (pick h (bits_number (true ∷ low))) (bits_number (times q (true ∷ low)) * 2)
      ∙ ap₂ bit_xor (first_row h) (place_double (bits_number low) (bits_number (times q (true ∷ low)))))
      ∙ places_times q

  -- the two counts of zeros in front, those of the product and those that make room, change places
  nothing_left : (u q : List Bool) (z : ℕ) → times q (true ∷ low) ≡ replicate z false ++ u → bits_number (remainder (true ∷ low) u) ≡ 0
  nothing_left [] q z e = number_remainder low [] ∙ zero-mul (2 ^ length low)
  nothing_left (b ∷ u) [] z e = absurd (omega (arith, ap length e ∙ length_zeros z (b ∷ u)))
  nothing_left (b ∷ u) (h ∷ q) z e =
      let v = b ∷ u in
      let g = bits_number low in
      let m = length low in
      let n = length (h ∷ q) in
      let l : z + length v ≡ m + n = omega (arith, sym (length_times h q true low) ∙ ap length e ∙ length_zeros z v) in
      number_remainder low v
      ∙ ap (places g (length v)) (sym (places_shift g z (bits_number v * 2 ^ m)))
      ∙ sym (places_add g z (length v) (bits_number v * 2 ^ m * 2 ^ z))
      ∙ ap₂ (places g) l (mul_right_comm (bits_number v) (2 ^ m) (2 ^ z))
      ∙ places_add g m n (bits_number v * 2 ^ z * 2 ^ m)
      ∙ ap (places g n) (places_shift g m (bits_number v * 2 ^ z) ∙ sym (number_zeros z v) ∙ sym (ap bits_number e))
      ∙ places_times (h ∷ q)

  -- the bits that go out of the register
  abbrev quotient : ℕ → ℕ → List Bool
  quotient zero s = []
  quotient (suc n) s = odd s ∷ quotient n (place (bits_number low) s)

  length_quotient : (n s : ℕ) → length (quotient n s) ≡ n
  length_quotient zero s = refl
  length_quotient (suc n) s = ap suc (length_quotient n (place (bits_number low) s))

  pick_double : (h : Bool) → pick h (bits_number (true ∷ low)) ≡ pick h (bits_number low) * 2 + bit_value h
  pick_double true = refl
  pick_double false = refl

  undo : (s : ℕ) → pick (odd s) (bits_number (true ∷ low)) ⊕ (place (bits_number low) s * 2) ≡ s
  undo s =
      let a = pick (odd s) (bits_number low) in
      let t = place (bits_number low) s in
      ap₂ bit_xor (pick_double (odd s)) (sym (add-zero (t * 2)))
      ∙ xor_block 1 a t (bit_value (odd s)) 0 (digit_lt (odd s)) (digit_lt false)
      ∙ ap₂ (λ (x y : ℕ). x * 2 + y)
      (xor_comm a t ∙ xor_assoc (s / 2) a a ∙ ap (λ (x : ℕ). (s / 2) ⊕ x) (xor_self a) ∙ xor_zero_r (s / 2))
      (xor_zero_r (bit_value (odd s)) ∙ digit_odd s)
      ∙ div-add-mod' s 2

  times_quotient : (n s : ℕ) → places (bits_number low) n s ≡ 0 → bits_number (times (quotient n s) (true ∷ low)) ≡ s
  times_quotient zero s e = sym e
  times_quotient (suc n) s e =
      number_times (odd s) (quotient n (place (bits_number low) s))
      ∙ ap (λ (x : ℕ). pick (odd s) (bits_number (true ∷ low)) ⊕ (x * 2)) (times_quotient n (place (bits_number low) s) e)
      ∙ undo s

  divided : (u : List Bool) → bits_number (remainder (true ∷ low) u) ≡ 0 → Divides (true ∷ low) u
  divided [] e = ([], 0, refl)
  divided (b ∷ u) e =
      let s = bits_number (b ∷ u) * 2 ^ length low in
      let q = quotient (length u) (place (bits_number low) s) in (
        odd s ∷ q,
        length low,
        number_inj (times (odd s ∷ q) (true ∷ low)) (replicate (length low) false ++ (b ∷ u))
            (length_times (odd s) q true low ∙ omega (arith, length_quotient (length u) (place (bits_number low) s), length_zeros (length low) (b ∷ u)))
            (times_quotient (length (b ∷ u)) s (sym (number_remainder low (b ∷ u)) ∙ e) ∙ sym (number_zeros (length low) (b ∷ u))),
      )

  divides_zero : (u : List Bool) → (bits_number (remainder (true ∷ low) u) ≡ 0) ↔ Divides (true ∷ low) u
  divides_zero u = (divided u, λ d. nothing_left u d.0 d.1 d.2)

-- ---- the check's polynomial

-- its coefficients below x ^ 36
unfoldable pub low : List Bool
low = coefficients 35 powers

pub polynomial_low : polynomial ≡ true ∷ low
unfolding polynomial low
polynomial_low = refl

pub number_low : bits_number low ≡ generator
unfolding low
number_low = refl

pub length_low : length low ≡ 36
unfolding low
length_low = refl

pub decides : (u : List Bool) → (bits_number (remainder polynomial u) ≡ 0) ↔ Divides polynomial u
decides u = subst (λ (p : List Bool). (bits_number (remainder p u) ≡ 0) ↔ Divides p u) (sym polynomial_low) (divides_zero low u)

-- all coefficients are 0 exactly when the number is, as a test
pub zero_test : (u : List Bool) → eqb (bits_number u) 0 ≡ all_zero u
zero_test u = go (all_zero u) refl
  where
    go : (b : Bool) → all_zero u ≡ b → eqb (bits_number u) 0 ≡ all_zero u
    go true e = eq-eqb (bits_number u) 0 (zero_number u e) ∙ sym e
    go false e = ne_eqb (bits_number u) 0 (λ z. true≢false (sym (number_zero u z) ∙ e)) ∙ sym e

-- the theorem: the test decides the definition
pub right_Right : (bs : List ℕ) → (right bs ≡ true) ↔ IsRight bs
unfolding right IsRight
right_Right bs = (
  λ e. (decides (bits bs)).0 (zero_number (remainder polynomial (bits bs)) e),
  λ d. number_zero (remainder polynomial (bits bs)) ((decides (bits bs)).1 d),
)
