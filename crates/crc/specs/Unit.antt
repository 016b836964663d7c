-- What is right (document 01, "Check"): a unit's bits in order are coefficients, the first bit the highest power, and the unit is right
-- exactly when the polynomial divides them. Then the words for damage: the bits in which two units differ, how many they are, and that
-- they lie within so many neighbouring bits.
use Rattle.std.specs.Prelude.{◌≡◌, Bool, true, false, not, ◌&&◌, ◌||◌, List, [], ◌∷◌, ◌++◌, ℕ, zero, suc, ◌+◌, ◌/◌, ◌%◌, ◌<◌, ◌≤◌, eqb, leb, length, take, drop, get_or, replicate}
use Rattle.crc.specs.Poly.{plus, Divides, remainder}

-- the polynomial of document 01: its powers, and its coefficients from x ^ 36 down to 1
abbrev pub powers : List ℕ
powers = 36 ∷ 34 ∷ 31 ∷ 30 ∷ 27 ∷ 24 ∷ 19 ∷ 18 ∷ 17 ∷ 15 ∷ 14 ∷ 12 ∷ 5 ∷ 2 ∷ 1 ∷ 0 ∷ []

abbrev pub has : List ℕ → ℕ → Bool
has [] k = false
has (e ∷ es) k = eqb e k || has es k

abbrev pub coefficients : ℕ → List ℕ → List Bool
coefficients zero es = has es zero ∷ []
coefficients (suc k) es = has es (suc k) ∷ coefficients k es

unfoldable pub polynomial : List Bool
polynomial = coefficients 36 powers

-- the k low bits of a number, bit 0 first
abbrev pub is_one : ℕ → Bool
is_one zero = false
is_one (suc n) = true

abbrev pub odd : ℕ → Bool
odd n = is_one (n % 2)

abbrev pub bits_of : ℕ → ℕ → List Bool
bits_of zero n = []
bits_of (suc k) n = odd n ∷ bits_of k (n / 2)

-- the bits of a unit: byte 0 comes first, and bit 0 of a byte
unfoldable pub bits : List ℕ → List Bool
bits [] = []
bits (b ∷ bs) = bits_of 8 b ++ bits bs

-- a unit is right exactly when the polynomial divides it
unfoldable pub IsRight : List ℕ → Type 0
IsRight bs = Divides polynomial (bits bs)

-- the same as a test: the division leaves nothing. `right_Right` of proofs/Divides.antt says that it is the same.
abbrev pub all_zero : List Bool → Bool
all_zero [] = true
all_zero (b ∷ bs) = not b && all_zero bs

unfoldable pub right : List ℕ → Bool
right bs = all_zero (remainder polynomial (bits bs))

-- the flit that starts at a place of a slice lies inside it and is right alone
unfoldable pub flit_right : List ℕ → ℕ → Bool
flit_right s at = leb (at + 64) (length s) && right (take 64 (drop at s))

-- each element is a byte; past the end `get_or` answers 0
abbrev pub AllBytes : List ℕ → Type 0
AllBytes bs = (i : ℕ) → get_or bs i 0 < 256

-- the bits in which two units of one length differ, and how many they are
abbrev pub changed : List ℕ → List ℕ → List Bool
changed bs cs = plus (bits bs) (bits cs)

abbrev pub weight : List Bool → ℕ
weight [] = 0
weight (true ∷ u) = suc (weight u)
weight (false ∷ u) = weight u

-- they differ only within k neighbouring bits
pub record Within (k : ℕ) (bs cs : List ℕ) : Type 0 where
  pub before : ℕ
  pub window : List Bool
  pub after : ℕ
  pub narrow : length window ≤ k
  pub only : changed bs cs ≡ replicate before false ++ (window ++ replicate after false)
