-- Bytes as text: a checksum, and hexadecimal.
use Rattle.std.specs.Prelude.{cond, List, [], ◌∷◌, ℕ, ◌+◌, ◌-◌, ◌*◌, ◌/◌, ◌%◌, ltb}
use Rattle.text.specs.Text.{ascii, digit}

-- Adler-32: 1 and the bytes summed, and these sums summed, each modulo 65521, the second above the first
unfoldable pub sums : ℕ → ℕ → List ℕ → ℕ
sums a b [] = b % 65521 * 65536 + a % 65521
sums a b (byte ∷ bytes) = sums (a + byte) (b + (a + byte)) bytes

unfoldable pub adler : List ℕ → ℕ
adler bytes = sums 1 0 bytes

-- the digits, then the letters from a on
unfoldable pub hex_digit : ℕ → ℕ
hex_digit n = cond (ltb n 10) (digit n) (97 + (n - 10))

-- two digits a byte, byte 0 first
unfoldable pub hex_digits : List ℕ → List ℕ
hex_digits [] = []
hex_digits (byte ∷ bytes) = hex_digit (byte / 16) ∷ hex_digit (byte % 16) ∷ hex_digits bytes

-- a dash for none
unfoldable pub hex : List ℕ → List ℕ
hex [] = ascii "-"
hex (byte ∷ bytes) = hex_digits (byte ∷ bytes)
