-- A list of bytes, byte by byte: the register that has taken them holds the remainder of their bits, and a remainder can be continued.
-- Also what else is known of the bits of bytes: how many they are, and that bytes are known by them.
use mathlib.Core.Path.{◌≡◌, refl, sym, ap, ap₂, ◌∙◌}
use mathlib.Core.Bool.{Bool}
use mathlib.Core.List.{List, [], ◌∷◌, ◌++◌, append_assoc}
use Prim.Native.Nat.{ℕ, suc, ◌*◌, ◌+◌, ◌%◌, ◌^◌}
use native.Mathlib.Nat.{mod-lt}
use native.Mathlib.Omega.{arith}
use lib.Dec.{eqb}
use lib.Pow.{pow_pos}
use lib.ListN.{length}
use lib.Bits.{xor_zero_r}
use Rattle.crc.specs.Poly.{remainder}
use Rattle.crc.specs.Unit.{bits, bits_of, polynomial, right, AllBytes}
use Rattle.crc.specs.Register.{bits_number, places, generator, take_byte, continued}
use Rattle.crc.proofs.Xor.{◌⊕◌}
use Rattle.crc.proofs.Places.{places_take}
use Rattle.crc.proofs.Numbers.{number_append, number_bits_of, number_remainder}
use Rattle.crc.proofs.Divides.{low, polynomial_low, number_low, length_low, zero_test}

pub length_bits : (bs : List ℕ) → length (bits bs) ≡ 8 * length bs
unfolding bits
length_bits [] = refl
length_bits (b ∷ bs) = let h : length (bits bs) ≡ 8 * length bs = length_bits bs in omega arith

pub bits_append : (xs ys : List ℕ) → bits (xs ++ ys) ≡ bits xs ++ bits ys
unfolding bits
bits_append [] ys = refl
bits_append (x ∷ xs) ys =
    ap (λ (v : List Bool). bits_of 8 x ++ v) (bits_append xs ys) ∙ sym (append_assoc (bits_of 8 x) (bits xs) (bits ys))

pub number_bits : (b : ℕ) (bs : List ℕ) → bits_number (bits (b ∷ bs)) ≡ bits_number (bits bs) * 2 ^ 8 + b % 2 ^ 8
unfolding bits
number_bits b bs = number_append (bits_of 8 b) (bits bs) ∙ ap (λ (x : ℕ). bits_number (bits bs) * 2 ^ 8 + x) (number_bits_of 8 b)

-- bytes with equal bits are equal
pub bytes_inj : (bs cs : List ℕ) → length bs ≡ length cs → AllBytes bs → AllBytes cs → bits_number (bits bs) ≡ bits_number (bits cs) → bs ≡ cs
bytes_inj [] [] l hb hc e = refl
bytes_inj [] (c ∷ cs) l hb hc e = absurd (omega arith)
bytes_inj (b ∷ bs) [] l hb hc e = absurd (omega arith)
bytes_inj (b ∷ bs) (c ∷ cs) l hb hc e =
    let s : bits_number (bits bs) * 2 ^ 8 + b % 2 ^ 8 ≡ bits_number (bits cs) * 2 ^ 8 + c % 2 ^ 8 = sym (number_bits b bs) ∙ e ∙ number_bits c cs in
    ap₂ {C = List ℕ} (λ (x : ℕ) (xs : List ℕ). x ∷ xs) (omega (arith, hb 0, hc 0))
    (bytes_inj bs cs (omega arith) (λ i. hb (suc i)) (λ i. hc (suc i)) (omega arith))

continued_places : (r : ℕ) (s : List ℕ) → continued r s ≡ places generator (length (bits s)) (r ⊕ (bits_number (bits s) * 2 ^ 36))
unfolding bits
continued_places r [] = sym (xor_zero_r r)
continued_places r (b ∷ bs) =
    continued_places (take_byte r b) bs
    ∙ ap (places generator (length (bits bs)))
    (sym (places_take generator 8 28 r (bits_number (bits bs)) (b % 2 ^ 8) (mod-lt b (pow_pos 8)))
    ∙ ap (λ (x : ℕ). places generator 8 (r ⊕ (x * 2 ^ 36))) (sym (number_bits b bs)))

-- one part after the other
pub continued_append : (r : ℕ) (xs ys : List ℕ) → continued r (xs ++ ys) ≡ continued (continued r xs) ys
continued_append r [] ys = refl
continued_append r (x ∷ xs) ys = continued_append (take_byte r x) xs ys

-- begun at 0, it is the remainder
pub continued_remainder : (s : List ℕ) → continued 0 s ≡ bits_number (remainder polynomial (bits s))
continued_remainder s =
    continued_places 0 s
    ∙ sym (ap (λ (p : List Bool). bits_number (remainder p (bits s))) polynomial_low ∙ number_remainder low (bits s)
    ∙ ap₂ (λ (g n : ℕ). places g (length (bits s)) (bits_number (bits s) * 2 ^ n)) number_low length_low)

-- the code's test for a unit that is right
pub right_continued : (s : List ℕ) → eqb (continued 0 s) 0 ≡ right s
unfolding right
right_continued s = ap (λ (n : ℕ). eqb n 0) (continued_remainder s) ∙ zero_test (remainder polynomial (bits s))
