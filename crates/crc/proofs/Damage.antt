-- What damage the check finds, over byte lists and any window of their bits, across bytes and flits. Two right units of one length differ
-- by a multiple of the polynomial. The polynomial has an even number of terms, so no multiple has an odd number of them. And a register
-- that is not zero never becomes zero, since the polynomial's last coefficient is 1: so no multiple lies within 36 neighbouring bits.
use mathlib.Core.Path.{◌≡◌, refl, sym, ap, ap₂, ◌∙◌, subst}
use mathlib.Core.Bool.{Bool, true, false, not, ◌&&◌, true≢false}
use mathlib.Core.List.{List, [], ◌∷◌, ◌++◌}
use Prim.Native.Nat.{ℕ, zero, suc, ◌+◌, ◌*◌, ◌/◌, ◌%◌, ◌^◌, ◌<◌, ◌≤◌}
use native.Mathlib.Nat.{div-add-mod', zero-mul, add_comm, pow-suc, lt_of_lt_of_le}
use native.Mathlib.Omega.{arith}
use lib.Pow.{pow_mono}
use lib.ListN.{length, replicate, length-append, length-replicate}
use lib.Bits.{bit_xor, xor_zero_r}
use Rattle.crc.specs.Poly.{xor, plus, scale, times, Divides, remainder}
use Rattle.crc.specs.Unit.{odd, is_one, polynomial, bits, AllBytes, IsRight, right, changed, weight, Within}
use Rattle.crc.specs.Register.{bits_number, pick, place, places}
use Rattle.crc.proofs.Xor.{◌⊕◌, xor_shl, same_of_zero}
use Rattle.crc.proofs.Places.{places_xor, places_shift, places_add, places_zero, place_lt}
use Rattle.crc.proofs.Numbers.{number_plus, number_zeros, number_lt, trailing, number_remainder}
use Rattle.crc.proofs.Divides.{low, polynomial_low, number_low, length_low, plus_right, decides, right_Right}
use Rattle.crc.proofs.Bytes.{length_bits, bytes_inj}

-- ---- an odd number of bits

abbrev parity : List Bool → Bool
parity [] = false
parity (b ∷ u) = xor b (parity u)

xor_4 : (a b c d : Bool) → xor (xor a b) (xor c d) ≡ xor (xor a c) (xor b d)
xor_4 false false c d = refl
xor_4 false true false d = refl
xor_4 false true true false = refl
xor_4 false true true true = refl
xor_4 true false false d = refl
xor_4 true false true false = refl
xor_4 true false true true = refl
xor_4 true true false false = refl
xor_4 true true false true = refl
xor_4 true true true d = refl

xor_false : (a : Bool) → xor a false ≡ a
xor_false false = refl
xor_false true = refl

parity_plus : (u v : List Bool) → parity (plus u v) ≡ xor (parity u) (parity v)
parity_plus [] v = refl
parity_plus (x ∷ u) [] = sym (xor_false (parity (x ∷ u)))
parity_plus (x ∷ u) (y ∷ v) = ap (xor (xor x y)) (parity_plus u v) ∙ xor_4 x y (parity u) (parity v)

parity_scale : (h : Bool) (p : List Bool) → parity (scale h p) ≡ (h && parity p)
parity_scale true [] = refl
parity_scale false [] = refl
parity_scale true (x ∷ p) = ap (xor x) (parity_scale true p)
parity_scale false (x ∷ p) = parity_scale false p

parity_times : (q p : List Bool) → parity p ≡ false → parity (times q p) ≡ false
parity_times [] p e = refl
parity_times (h ∷ q) p e =
    parity_plus (scale h p) (false ∷ times q p)
    ∙ ap₂ xor (parity_scale h p ∙ ap (λ (b : Bool). h && b) e ∙ and_none h) (parity_times q p e)
  where
    and_none : (h : Bool) → (h && false) ≡ false
    and_none true = refl
    and_none false = refl

parity_zeros : (z : ℕ) (u : List Bool) → parity (replicate z false ++ u) ≡ parity u
parity_zeros zero u = refl
parity_zeros (suc z) u = parity_zeros z u

-- a multiple of a polynomial with an even number of terms has an even number of them
even : (p u : List Bool) → parity p ≡ false → Divides p u → parity u ≡ false
even p u e d = sym (parity_zeros d.1 u) ∙ ap parity (sym d.2) ∙ parity_times d.0 p e

even_polynomial : parity polynomial ≡ false
unfolding polynomial
even_polynomial = refl

odd_suc : (n : ℕ) → odd (suc n) ≡ not (odd n)
odd_suc n = go (n % 2) refl
  where
    go : (r : ℕ) → n % 2 ≡ r → odd (suc n) ≡ not (odd n)
    go zero h =
        let k : suc n % 2 ≡ 1 = omega arith in
        ap is_one k ∙ sym (ap (λ (x : ℕ). not (is_one x)) h)
    go (suc r) h =
        let k : suc n % 2 ≡ 0 = omega arith in
        ap is_one k ∙ sym (ap (λ (x : ℕ). not (is_one x)) h)

odd_weight : (u : List Bool) → odd (weight u) ≡ parity u
odd_weight [] = refl
odd_weight (true ∷ u) = odd_suc (weight u) ∙ ap not (odd_weight u)
odd_weight (false ∷ u) = odd_weight u

-- ---- within so many neighbouring bits, for any polynomial with first and last coefficient 1: `last` says that the last is

module _ (k : ℕ) (low : List Bool) (size : length low ≡ suc k) (last : 2 ^ k ≤ bits_number low) where
  place_live : (s : ℕ) → s < 2 ^ suc k → place (bits_number low) s ≡ 0 → s ≡ 0
  place_live s h e = go (s % 2) refl
    where
      go : (o : ℕ) → s % 2 ≡ o → s ≡ 0
      go zero z =
          let half : s / 2 ≡ 0 = sym (xor_zero_r (s / 2)) ∙ sym (ap (λ (x : ℕ). (s / 2) ⊕ pick (is_one x) (bits_number low)) z) ∙ e in
          omega (arith, div-add-mod' s 2)
      go (suc o) z =
          let half : s / 2 ≡ bits_number low = same_of_zero (s / 2) (bits_number low) (sym (ap (λ (x : ℕ). (s / 2) ⊕ pick (is_one x) (bits_number low)) z) ∙ e) in
          absurd (omega (arith, pow-suc 2 k))

  places_live : (n s : ℕ) → s < 2 ^ suc k → places (bits_number low) n s ≡ 0 → s ≡ 0
  places_live zero s h e = e
  places_live (suc n) s h e =
      place_live s h
      (places_live n (place (bits_number low) s)
      (place_lt (suc k) (bits_number low) s (subst (λ (m : ℕ). bits_number low < 2 ^ m) size (number_lt low)) h) e)

  -- where the remainder is nothing, the number itself comes to nothing after as many places as there are bits
  all_places : (u : List Bool) → bits_number (remainder (true ∷ low) u) ≡ 0 → places (bits_number low) (length u) (bits_number u) ≡ 0
  all_places u e =
      let g = bits_number low in
      let m = length low in
      ap (places g (length u)) (sym (places_shift g m (bits_number u)))
      ∙ sym (places_add g m (length u) (bits_number u * 2 ^ m))
      ∙ ap (λ (n : ℕ). places g n (bits_number u * 2 ^ m)) (add_comm m (length u))
      ∙ places_add g (length u) m (bits_number u * 2 ^ m)
      ∙ ap (places g m) (sym (number_remainder low u) ∙ e)
      ∙ places_zero g m

  window_live : (a c : ℕ) (w : List Bool) → length w ≤ length low
      → bits_number (remainder (true ∷ low) (replicate a false ++ (w ++ replicate c false))) ≡ 0 → bits_number w ≡ 0
  window_live a c w h e =
      let g = bits_number low in
      let v = w ++ replicate c false in
      places_live (length v) (bits_number w) (lt_of_lt_of_le (number_lt w) (pow_mono (omega arith)))
      (ap (places g (length v)) (sym (places_shift g a (bits_number w)))
      ∙ sym (places_add g a (length v) (bits_number w * 2 ^ a))
      ∙ ap₂ (places g)
      (sym (length-append (replicate a false) v ∙ ap (λ (x : ℕ). x + length v) (length-replicate a false)))
      (sym (number_zeros a v ∙ ap (λ (x : ℕ). x * 2 ^ a) (trailing w c)))
      ∙ all_places (replicate a false ++ v) e)

  -- the remainder of a sum is the sum of the remainders
  linear : (u v : List Bool) → length u ≡ length v
      → bits_number (remainder (true ∷ low) (plus u v)) ≡ bits_number (remainder (true ∷ low) u) ⊕ bits_number (remainder (true ∷ low) v)
  linear u v l =
      let g = bits_number low in
      let m = length low in
      number_remainder low (plus u v)
      ∙ ap₂ (places g) (plus_right u v (omega arith) ∙ sym l) (ap (λ (x : ℕ). x * 2 ^ m) (number_plus u v) ∙ xor_shl (bits_number u) (bits_number v) m)
      ∙ places_xor g (length u) (bits_number u * 2 ^ m) (bits_number v * 2 ^ m)
      ∙ ap₂ bit_xor (sym (number_remainder low u))
      (ap (λ (n : ℕ). places g n (bits_number v * 2 ^ m)) l ∙ sym (number_remainder low v))

  -- two multiples that differ only within as many neighbouring bits as the polynomial has coefficients below its first are the same
  window : (u v : List Bool) → length u ≡ length v → bits_number (remainder (true ∷ low) u) ≡ 0 → bits_number (remainder (true ∷ low) v) ≡ 0
      → (a c : ℕ) (w : List Bool) → length w ≤ length low → plus u v ≡ replicate a false ++ (w ++ replicate c false) → bits_number u ≡ bits_number v
  window u v l d d' a c w h e =
      same_of_zero (bits_number u) (bits_number v)
      (sym (number_plus u v) ∙ ap bits_number e ∙ number_zeros a (w ++ replicate c false)
      ∙ ap (λ (n : ℕ). n * 2 ^ a)
      (trailing w c
      ∙ window_live a c w h
      (ap (λ (x : List Bool). bits_number (remainder (true ∷ low) x)) (sym e) ∙ linear u v l ∙ ap₂ bit_xor d d'))
      ∙ zero-mul (2 ^ a))

-- ---- the theorems

not_right : (cs : List ℕ) → (IsRight cs → ⊥) → right cs ≡ false
not_right cs no_way = go (right cs) refl
  where
    go : (b : Bool) → right cs ≡ b → right cs ≡ false
    go true e = absurd (no_way ((right_Right cs).0 e))
    go false e = e

-- a unit that differs from a right one in an odd number of bits is not right
pub odd_Right : (bs cs : List ℕ) → IsRight bs → odd (weight (changed bs cs)) ≡ true → IsRight cs → ⊥
unfolding IsRight
odd_Right bs cs d o d' =
    true≢false
    (sym o ∙ odd_weight (changed bs cs) ∙ parity_plus (bits bs) (bits cs)
    ∙ ap₂ xor (even polynomial (bits bs) even_polynomial d) (even polynomial (bits cs) even_polynomial d'))

pub odd_damage : (bs cs : List ℕ) → right bs ≡ true → odd (weight (changed bs cs)) ≡ true → right cs ≡ false
odd_damage bs cs r o = not_right cs (odd_Right bs cs ((right_Right bs).0 r) o)

-- a unit that differs from a right one only within 36 neighbouring bits is not right, unless it is the same
pub burst_Right : (bs cs : List ℕ) → length bs ≡ length cs → AllBytes bs → AllBytes cs → IsRight bs → Within 36 bs cs → IsRight cs → bs ≡ cs
unfolding IsRight
burst_Right bs cs l hb hc d w d' =
    bytes_inj bs cs l hb hc
    (window 35 low length_low (subst (λ (g : ℕ). 2 ^ 35 ≤ g) (sym number_low) (omega arith)) (bits bs) (bits cs)
    (length_bits bs ∙ ap (λ (n : ℕ). 8 * n) l ∙ sym (length_bits cs)) (none (bits bs) d) (none (bits cs) d')
    w.before w.after w.window (subst (λ (n : ℕ). length w.window ≤ n) (sym length_low) w.narrow) w.only)
  where
    none : (u : List Bool) → Divides polynomial u → bits_number (remainder (true ∷ low) u) ≡ 0
    none u e = ap (λ (p : List Bool). bits_number (remainder p u)) (sym polynomial_low) ∙ (decides u).1 e

pub burst_damage : (bs cs : List ℕ) → length bs ≡ length cs → AllBytes bs → AllBytes cs → right bs ≡ true → Within 36 bs cs → (bs ≡ cs → ⊥) → right cs ≡ false
burst_damage bs cs l hb hc r w other = not_right cs (λ d. other (burst_Right bs cs l hb hc ((right_Right bs).0 r) w d))
