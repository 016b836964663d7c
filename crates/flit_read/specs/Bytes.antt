-- Bytes and the numbers that they make (01, "Fields"): byte 0 comes first, and bit 0 of a byte comes first, so that bit b of the
-- number is bit b % 8 of byte b / 8.
use Rattle.std.specs.Prelude.{Bool, true, false, List, [], ◌∷◌, ℕ, zero, suc, ◌+◌, ◌-◌, ◌*◌, ◌/◌, ◌%◌, ◌^◌, eqb}

-- the number that a list of bytes makes
unfoldable pub number : List ℕ → ℕ
number [] = 0
number (b ∷ bs) = b + 256 * number bs

-- the lowest n bytes of a number
unfoldable pub bytes : ℕ → ℕ → List ℕ
bytes zero x = []
bytes (suc n) x = x % 256 ∷ bytes n (x / 256)

-- bits high:low of a number
pub record Field : Type 0 where
  pub high : ℕ
  pub low : ℕ

abbrev pub span : ℕ → ℕ → Field
span high low = record { high = high; low = low }

abbrev pub bit : ℕ → Field
bit b = span b b

-- what stands in a field of the number x
abbrev pub read : Field → ℕ → ℕ
read p x = x / 2 ^ p.low % 2 ^ (suc p.high - p.low)

abbrev pub marked : Field → ℕ → Bool
marked p x = eqb (read p x) 1

-- what stands in the bits below a field
abbrev pub below : Field → ℕ → ℕ
below p x = x % 2 ^ p.low

-- a value where its field stands; a flit's content is the sum of its fields
abbrev pub write : Field → ℕ → ℕ
write p v = v * 2 ^ p.low

abbrev pub mark : Field → Bool → ℕ
mark p true = write p 1
mark p false = 0
