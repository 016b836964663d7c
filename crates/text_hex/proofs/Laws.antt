-- Sums that are reduced on the way, the digits of the library, and how long hexadecimal is.
use mathlib.Core.Bool.{Bool, true, false, ◌&&◌}
use mathlib.Core.List.{List, [], ◌∷◌}
use mathlib.Core.Path.{◌≡◌, refl, sym, ◌∙◌}
use Prim.Native.Nat.{ℕ, zero, suc, ◌+◌, ◌*◌, ◌/◌, ◌%◌, ◌≤◌, ◌<◌}
use native.Mathlib.Numerals.{add-one}
use native.Mathlib.Omega.{arith}
use lib.Dec.{eqb}
use borrow.Author.Tests.{eqb-true, eqb-false}
use lib.ListN.{length, drop, get_or, drop_of_length-le}
use lib.Seq.{drop-cons}
use Rattle.std.specs.Prelude.{slice_index}
use Rattle.text.specs.Text.{ascii}
use Rattle.hex.specs.Hex.{lower_digits, encode_with, encode_lower}
use Rattle.text_hex.specs.Dump.{sums, adler, hex_digit, hex_digits, hex}

-- ---- the checksum

-- sums that differ by a multiple of 65521 give the same
sums_reduced : (a b a' b' : ℕ) (bytes : List ℕ) → a % 65521 ≡ a' % 65521 → b % 65521 ≡ b' % 65521 → sums a b bytes ≡ sums a' b' bytes
unfolding sums
sums_reduced a b a' b' [] p q = rw (p, q) refl
sums_reduced a b a' b' (byte ∷ bytes) p q =
    sums_reduced (a + byte) (b + (a + byte)) (a' + byte) (b' + (a' + byte)) bytes (omega arith) (omega arith)

sums_next : (a b : ℕ) (bytes : List ℕ) (i : ℕ) → i < length bytes
    → sums a b (drop i bytes) ≡ sums (a + get_or bytes i 0) (b + (a + get_or bytes i 0)) (drop (i + 1) bytes)
unfolding sums
sums_next a b bytes i h = rw (add-one, drop-cons bytes i 0) refl

-- one byte more, and the sums reduced or not
pub sums_go_on : (a b a' b' : ℕ) (bytes : List ℕ) (i : ℕ) → i < length bytes → (a + get_or bytes i 0) % 65521 ≡ a' % 65521
    → (b + (a + get_or bytes i 0)) % 65521 ≡ b' % 65521 → sums a b (drop i bytes) ≡ adler bytes
    → sums a' b' (drop (i + 1) bytes) ≡ adler bytes
sums_go_on a b a' b' bytes i h p q e =
    sym (sums_reduced (a + get_or bytes i 0) (b + (a + get_or bytes i 0)) a' b' (drop (i + 1) bytes) p q)
    ∙ sym (sums_next a b bytes i h)
    ∙ e

pub sums_end : (a b : ℕ) (bytes : List ℕ) (i : ℕ) → length bytes ≤ i → sums a b (drop i bytes) ≡ adler bytes
    → b % 65521 * 65536 + a % 65521 ≡ adler bytes
unfolding sums
sums_end a b bytes i h e = rw (drop_of_length-le bytes h) at e

-- ---- hexadecimal

both : (a b : Bool) → (a && b) ≡ true → (a ≡ true) × (b ≡ true)
both true b h = (refl, h)
both false b h = let z : false ≡ true = h in (cc, cc)

-- the digits of the library, up to the k-th
digits_agree : ℕ → Bool
digits_agree zero = true
digits_agree (suc k) = eqb (slice_index lower_digits k) (hex_digit k) && digits_agree k

digit_below : (k n : ℕ) → n < k → digits_agree k ≡ true → slice_index lower_digits n ≡ hex_digit n
unfolding digits_agree
digit_below zero n h e = absurd (omega arith)
digit_below (suc k) n h e =
    let here = both (eqb (slice_index lower_digits k) (hex_digit k)) (digits_agree k) e in
    by_last (eqb n k) refl (eqb-true (slice_index lower_digits k) (hex_digit k) here.0) (λ l. digit_below k n l here.1)
  where
    by_last : (last : Bool) → eqb n k ≡ last → slice_index lower_digits k ≡ hex_digit k
        → (n < k → slice_index lower_digits n ≡ hex_digit n) → slice_index lower_digits n ≡ hex_digit n
    by_last true l e before = rw (eqb-true n k l) e
    by_last false l e before = before (let apart = eqb-false n k l in omega arith)

digit_is : (n : ℕ) → n < 16 → slice_index lower_digits n ≡ hex_digit n
unfolding digits_agree hex_digit
digit_is n h = digit_below 16 n h refl

-- as the library writes them
pub digits_are : (bytes : List ℕ) → ((i : ℕ) → get_or bytes i 0 < 256) → encode_lower bytes ≡ hex_digits bytes
unfolding hex_digits encode_with
digits_are [] h = refl
digits_are (byte ∷ bytes) h =
    let b : byte < 256 = h 0 in
    rw (digit_is (byte / 16) (omega arith), digit_is (byte % 16) (omega arith), digits_are bytes (λ i. h (suc i))) refl

pub hex_none : (bytes : List ℕ) → length bytes ≡ 0 → ascii "-" ≡ hex bytes
unfolding hex
hex_none [] h = refl
hex_none (byte ∷ bytes) h = absurd (omega arith)

pub hex_some : (bytes : List ℕ) → (length bytes ≡ 0 → ⊥) → hex_digits bytes ≡ hex bytes
unfolding hex
hex_some [] h = absurd (h refl)
hex_some (byte ∷ bytes) h = refl

-- ---- how long it is

pub digits_short : (bytes : List ℕ) → length (hex_digits bytes) ≡ 2 * length bytes
unfolding hex_digits
digits_short [] = refl
digits_short (byte ∷ bytes) = omega (arith, digits_short bytes)

pub hex_short : (bytes : List ℕ) → length (hex bytes) ≤ 2 * length bytes + 1
unfolding hex
hex_short [] = omega arith
hex_short (byte ∷ bytes) = omega (arith, digits_short (byte ∷ bytes))
