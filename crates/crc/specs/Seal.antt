-- Sealing: the check field, a unit's last 36 bits, written so that the unit is right. The coefficient of x ^ c stands at DL content bit
-- 63 - c (document 01, "Check"), so bit i of a remainder, which is the coefficient of x ^ (35 - i), stands at bit 28 + i.
use Rattle.std.specs.Prelude.{cond, List, [], ◌∷◌, ◌++◌, ℕ, ◌+◌, ◌-◌, ◌*◌, ◌/◌, ◌%◌, ◌^◌, leb, length, take, get_or}
use Rattle.crc.specs.Poly.{remainder}
use Rattle.crc.specs.Unit.{bits, polynomial}
use Rattle.crc.specs.Register.{bits_number}

-- the last five bytes with the check c; x is the byte that the check shares with other fields
abbrev pub check_bytes : ℕ → ℕ → List ℕ
check_bytes x c =
    (x % 16 + c % 16 * 16) ∷ (c / 2 ^ 4 % 256) ∷ (c / 2 ^ 12 % 256) ∷ (c / 2 ^ 20 % 256) ∷ (c / 2 ^ 28 % 256) ∷ []

unfoldable pub with_check : List ℕ → ℕ → List ℕ
with_check bs c = take (length bs - 5) bs ++ check_bytes (get_or bs (length bs - 5) 0) c

-- the check of a unit: what the division leaves of it with zeros in the check field
unfoldable pub check_of : List ℕ → ℕ
check_of bs = bits_number (remainder polynomial (bits (with_check bs 0)))

-- the unit with its check; a list too short to hold one stays as it is
unfoldable pub sealed : List ℕ → List ℕ
sealed bs = cond (leb 5 (length bs)) (with_check bs (check_of bs)) bs
