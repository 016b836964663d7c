-- Laws of numbers and of bytes in hexadecimal, digit by digit.
use mathlib.Core.Bool.{Bool, true, false, ◌&&◌, cond}
use mathlib.Core.List.{List, [], ◌∷◌, ◌++◌}
use mathlib.Core.Path.{◌≡◌, refl, ap, sym, ◌∙◌}
use Rattle.std.proofs.Common.{Some, None, unwrap_or}
use Prim.Native.Nat.{ℕ, zero, suc, ◌+◌, ◌-◌, ◌*◌, ◌/◌, ◌%◌, ◌≤◌, ◌<◌}
use native.Mathlib.Omega.{arith}
use lib.Dec.{leb, ltb, eqb}
use lib.ListN.{length, take, drop, set, get_or, length-take}
use lib.Seq.{take_all, take-suc, drop-cons, append_snoc, set_at, take-append_seam}
use borrow.Author.Tests.{ltb-true, lt-ltb, le-leb, lt-leb, leb-true, leb-false}
use Rattle.text.specs.Text.{ascii}
use Rattle.std.proofs.lemmas.Bool.{and_from, and_left, and_right}
use Rattle.end_state.proofs.Tests.{and_l, and_r}
use Rattle.drive_token.specs.Tokens.{is_digit, all_digits, value_from, value, is_decimal, is_number, offset_value, nibble, all_hex, digit_pairs, is_bytes, pairs, same, over}
use Rattle.drive_token.proofs.Cuts.{same_true}

-- ---- numbers

grows : (t : List ℕ) (n : ℕ) → n ≤ value_from n t
unfolding value_from
grows [] n = omega arith
grows (c ∷ t) n = omega (arith, grows t (n * 10 + (c - 48)))

pub no_number : (max : ℕ) (t : List ℕ) → length t ≡ 0 → is_number max t ≡ false
unfolding is_number
no_number max [] h = refl
no_number max (c ∷ t) h = let z : suc (length t) ≡ 0 = h in absurd (omega arith)

-- a digit that is none, or with which the number grows past the most: the token is no number
stop : (a b d : Bool) (n m max : ℕ) → n ≤ m → (a && leb n max) ≡ false → (d && (a && b) && leb m max) ≡ false
stop false b d n m max h e = and_left (d && false) (leb m max) (and_right d false refl)
stop true b d n m max h e = and_right (d && b) (leb m max) (lt-leb m max (omega (arith, leb-false n max e)))

pub stops : (max n c : ℕ) (t s : List ℕ) → all_digits t ≡ all_digits (c ∷ s) → value t ≡ value_from n (c ∷ s)
    → (is_digit c && leb (n * 10 + (c - 48)) max) ≡ false → is_number max t ≡ false
unfolding is_number all_digits value_from
stops max n c t s p q e =
    let m = n * 10 + (c - 48) in
    rw (p, q) (stop (is_digit c) (all_digits s) (ltb 0 (length t)) m (value_from m s) max (grows s m) e)

pub digits_next : (c : ℕ) (s : List ℕ) → is_digit c ≡ true → all_digits (c ∷ s) ≡ all_digits s
unfolding all_digits
digits_next c s h = simp h

pub value_next : (n c : ℕ) (s : List ℕ) → value_from n (c ∷ s) ≡ value_from (n * 10 + (c - 48)) s
unfolding value_from
value_next n c s = refl

pub value_start : (t : List ℕ) → value t ≡ value_from 0 t
unfolding value
value_start t = refl

pub whole_number : (max n : ℕ) (t : List ℕ) → 0 < length t → n ≤ max → all_digits t ≡ all_digits [] → value t ≡ value_from n []
    → is_number max t ≡ true
unfolding is_number all_digits value_from
whole_number max n t h k p q =
    and_from (ltb 0 (length t) && all_digits t) (leb (value t) max)
    (and_from (ltb 0 (length t)) (all_digits t) (lt-ltb 0 (length t) h) p)
    (rw q (le-leb n max k))

pub value_end : (n : ℕ) → value_from n [] ≡ n
unfolding value_from
value_end n = refl

pub number_most : (max : ℕ) (t : List ℕ) → is_number max t ≡ true → value t ≤ max
unfolding is_number
number_most max t h = leb-true (value t) max (and_r (ltb 0 (length t) && all_digits t) (leb (value t) max) h)

-- an offset that is a number is told as it is, and a larger one as the largest
offset_by : (t : List ℕ) (b : Bool) → is_number 18446744073709551615 t ≡ b → is_decimal t ≡ true
    → unwrap_or (cond b (Some (value t)) None) 18446744073709551615 ≡ offset_value t
unfolding is_number offset_value
offset_by t true h d = omega (arith, leb-true (value t) 18446744073709551615 (and_r (is_decimal t) (leb (value t) 18446744073709551615) h))
offset_by t false h d =
    let k : leb (value t) 18446744073709551615 ≡ false = simp d at h in
    omega (arith, leb-false (value t) 18446744073709551615 k)

pub offset_told : (t : List ℕ) → is_decimal t ≡ true
    → unwrap_or (cond (is_number 18446744073709551615 t) (Some (value t)) None) 18446744073709551615 ≡ offset_value t
offset_told t d = offset_by t (is_number 18446744073709551615 t) refl d

-- ---- bytes

pub hex_at : (t : List ℕ) (i : ℕ) → all_hex t ≡ true → i < length t → nibble (get_or t i 0) < 16
unfolding all_hex
hex_at [] i h k = absurd (omega arith)
hex_at (c ∷ t) zero h k = ltb-true (nibble c) 16 (and_l (ltb (nibble c) 16) (all_hex t) h)
hex_at (c ∷ t) (suc i) h k = hex_at t i (and_r (ltb (nibble c) 16) (all_hex t) h) (omega arith)

pub length_pairs : (t : List ℕ) → length (pairs t) ≡ length t / 2
unfolding pairs
length_pairs [] = refl
length_pairs (h ∷ []) = refl
length_pairs (h ∷ l ∷ t) = let e = length_pairs t in omega arith

pub pairs_at : (t : List ℕ) (i : ℕ) → 2 * i + 1 < length t
    → get_or (pairs t) i 0 ≡ nibble (get_or t (2 * i) 0) * 16 + nibble (get_or t (2 * i + 1) 0)
unfolding pairs
pairs_at [] i k = absurd (omega arith)
pairs_at (h ∷ []) i k = absurd (omega arith)
pairs_at (h ∷ l ∷ t) zero k = refl
pairs_at (h ∷ l ∷ t) (suc i) k =
    let e : 2 * suc i ≡ suc (suc (2 * i)) = omega arith in
    let d : 2 * suc i + 1 ≡ suc (suc (2 * i + 1)) = omega arith in
    rw (d, e) (pairs_at t i (omega arith))

pub pairs_hex : (t : List ℕ) → digit_pairs t ≡ true → all_hex t ≡ true
unfolding digit_pairs
pairs_hex t h = and_r (ltb 0 (length t) && eqb (length t % 2) 0 && leb (length t) 4000) (all_hex t) h

pub pairs_most : (t : List ℕ) → digit_pairs t ≡ true → length t ≤ 4000
unfolding digit_pairs
pairs_most t h =
    leb-true (length t) 4000
    (and_r (ltb 0 (length t) && eqb (length t % 2) 0) (leb (length t) 4000)
    (and_l (ltb 0 (length t) && eqb (length t % 2) 0 && leb (length t) 4000) (all_hex t) h))

pub dash_bytes : (t : List ℕ) → same t (ascii "-") ≡ true → is_bytes t ≡ true
unfolding is_bytes
dash_bytes t h = simp h

pub dash_none : (t : List ℕ) → same t (ascii "-") ≡ true → pairs t ≡ []
unfolding pairs
dash_none t h = ap pairs (same_true t (ascii "-") h)

pub other_bytes : (t : List ℕ) → same t (ascii "-") ≡ false → is_bytes t ≡ digit_pairs t
unfolding is_bytes
other_bytes t h = simp h

-- the first i bytes written
abbrev pub so_far : List ℕ → List ℕ → ℕ → List ℕ
so_far bytes buffer i = take i bytes ++ drop i buffer

pub over_next : (bytes buffer : List ℕ) (i : ℕ) → i < length bytes → i < length buffer
    → set (so_far bytes buffer i) i (get_or bytes i 0) ≡ so_far bytes buffer (suc i)
over_next bytes buffer i h k =
    let v = get_or bytes i 0 in
    let n : length (take i bytes) ≡ i = simp length-take (omega arith) in
    ap (λ (l : List ℕ). set (take i bytes ++ l) i v) (drop-cons buffer i 0 k)
    ∙ set_at (take i bytes) (get_or buffer i 0) (drop (suc i) buffer) v i n
    ∙ sym (append_snoc (take i bytes) v (drop (suc i) buffer))
    ∙ ap (λ (l : List ℕ). l ++ drop (suc i) buffer) (sym (take-suc bytes i 0 h))

pub over_end : (bytes buffer : List ℕ) (i : ℕ) → i ≡ length bytes → so_far bytes buffer i ≡ over bytes buffer
unfolding over
over_end bytes buffer i e = rw (e, take_all (length bytes) bytes (omega arith))

pub over_none : (buffer : List ℕ) → over [] buffer ≡ buffer
unfolding over
over_none buffer = refl

-- the first places of the buffer are the bytes
pub over_front : (bytes buffer : List ℕ) (n : ℕ) → length bytes ≡ n → take n (over bytes buffer) ≡ bytes
unfolding over
over_front bytes buffer n h = rw (sym h) (take-append_seam bytes (drop (length bytes) buffer))
