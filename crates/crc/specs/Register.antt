-- The division as the code does it: the remainder is a number below 2 ^ 36, its first coefficient, that of x ^ 35, in bit 0. Nothing here
-- decides what is right: `continued_remainder` of proofs/Bytes.antt says that these are the numbers of Poly.antt's remainders.
use Rattle.std.specs.Prelude.{Bool, true, false, List, [], ◌∷◌, ℕ, zero, suc, ◌+◌, ◌*◌, ◌/◌, ◌%◌, ◌^◌}
use Rattle.std.specs.Int.Bits.{bit_xor}
use Rattle.crc.specs.Unit.{odd}

-- the number of a list of coefficients, the first in bit 0
abbrev pub bit_value : Bool → ℕ
bit_value false = 0
bit_value true = 1

abbrev pub bits_number : List Bool → ℕ
bits_number [] = 0
bits_number (b ∷ u) = bits_number u * 2 + bit_value b

-- one place of the division, and n places, over the number g of the coefficients below the polynomial's first
abbrev pub pick : Bool → ℕ → ℕ
pick true g = g
pick false g = 0

abbrev pub place : ℕ → ℕ → ℕ
place g s = bit_xor (s / 2) (pick (odd s) g)

abbrev pub places : ℕ → ℕ → ℕ → ℕ
places g zero s = s
places g (suc n) s = places g n (place g s)

-- the number of the polynomial's coefficients below x ^ 36
abbrev pub generator : ℕ
generator = 0xe_40b7_0932

-- the remainder after one more byte: eight places, and the byte's bits come in at the lowest powers
abbrev pub take_byte : ℕ → ℕ → ℕ
take_byte r b = bit_xor (places generator 8 r) (b % 2 ^ 8 * 2 ^ 28)

-- a remainder continued over more bytes
abbrev pub continued : ℕ → List ℕ → ℕ
continued r [] = r
continued r (b ∷ bs) = continued (take_byte r b) bs

-- f at i, i + 1, .., n of them
abbrev pub tabulate : (ℕ → ℕ) → ℕ → ℕ → List ℕ
tabulate f i zero = []
tabulate f i (suc n) = f i ∷ tabulate f (suc i) n

-- the table of 256 remainders: entry i is what eight places make of i
unfoldable pub table : List ℕ
table = tabulate (places generator 8) 0 256
