-- Bytes and the numbers that they make. A list of bytes is the number's digits to the base 256, lowest first, so that taking and dropping
-- bytes is the rest and the quotient by a power of 256, and `bytes` and `number` are inverse to each other. Then that the
-- library reads and writes numbers so, that a replay flit's bits 159:96 are its DL content, and that no field holds more than its bits.
use mathlib.Core.Path.{◌≡◌, refl, sym, ap, ap₂, ◌∙◌}
use mathlib.Core.List.{List, [], ◌∷◌, ◌++◌}
use Prim.Native.Nat.{ℕ, zero, suc, ◌+◌, ◌-◌, ◌*◌, ◌/◌, ◌%◌, ◌^◌, ◌<◌, ◌≤◌}
use native.Mathlib.Nat.{div-div-eq-div-mul, pow-suc, pow-succ', zero-div, zero-mod, mul_assoc, mul_comm, mod-add-div, mod-eq_of_lt, div-eq_of_lt, add-mul-mod_self_left, add-mul-div_left}
use native.Mathlib.Numerals.{add-one}
use native.Mathlib.Omega.{arith}
use lib.ListN.{length, take, drop, get_or, replicate, take-append-drop, length-drop}
use lib.Pow.{pow-add}
use lib.Seq.{take-suc, take_all, drop-cons, drop-drop, get_or-drop, length-take-le}
use Rattle.std.specs.Int.{w16, w64, from_le_bytes, to_le_bytes, sum_through, byte_worth, bytes_low_first}
use Rattle.crc.specs.Unit.{AllBytes}
use Rattle.flit_read.specs.Bytes.{number, bytes, span, read}
use Rattle.flit_read.specs.Fields.{content, replay_content, fields_of}
use Rattle.flit_read.specs.declared.Fields.{Fields}

-- ---- the number of a list of bytes

pub number_append : (s t : List ℕ) → number (s ++ t) ≡ number s + 256 ^ length s * number t
unfolding number
number_append [] t = omega arith
number_append (b ∷ s) t =
    let e = number_append s t in
    let p = ap (λ (n : ℕ). n * number t) (pow-succ' 256 (length s)) ∙ mul_assoc 256 (256 ^ length s) (number t) in omega arith

pub number_below : (s : List ℕ) → AllBytes s → number s < 256 ^ length s
unfolding number
number_below [] h = omega arith
number_below (b ∷ s) h =
    let i = number_below s (λ i. h (suc i)) in
    let b_small : b < 256 = h 0 in
    let p = pow-succ' 256 (length s) in omega arith

-- one byte more of a divisor
div_byte : (k x : ℕ) → x / 256 ^ suc k ≡ x / 256 / 256 ^ k
div_byte k x = ap (λ (n : ℕ). x / n) (pow-succ' 256 k) ∙ sym (div-div-eq-div-mul x 256 (256 ^ k))

mod_byte : (k x : ℕ) → x % 256 ^ suc k ≡ x % 256 + 256 * (x / 256 % 256 ^ k)
mod_byte k x =
    let p = 256 ^ k in
    let y = x / 256 in
    let a = mod-add-div x (256 ^ suc k) in
    let b = mod-add-div y p in
    let q = div_byte k x in
    let m : 256 ^ suc k * (x / 256 ^ suc k) ≡ 256 * (p * (y / p)) = ap₂ (λ (n d : ℕ). n * d) (pow-succ' 256 k) q ∙ mul_assoc 256 p (y / p) in
    omega arith

-- the first byte and the others
head_byte : (b n : ℕ) → b < 256 → (b + 256 * n) % 256 ≡ b
head_byte b n h = omega arith

tail_bytes : (b n : ℕ) → b < 256 → (b + 256 * n) / 256 ≡ n
tail_bytes b n h = omega arith

pub number_take : (k : ℕ) (s : List ℕ) → AllBytes s → number (take k s) ≡ number s % 256 ^ k
unfolding number
number_take zero s h = omega arith
number_take (suc k) [] h = sym (zero-mod (256 ^ suc k))
number_take (suc k) (b ∷ s) h =
    let n = number s in
    let e = number_take k s (λ i. h (suc i)) in
    let m = mod_byte k (b + 256 * n) in
    let f = head_byte b n (h 0) in
    let t = ap (λ (y : ℕ). y % 256 ^ k) (tail_bytes b n (h 0)) in omega arith

pub number_drop : (k : ℕ) (s : List ℕ) → AllBytes s → number (drop k s) ≡ number s / 256 ^ k
unfolding number
number_drop zero s h = omega arith
number_drop (suc k) [] h = sym (zero-div (256 ^ suc k))
number_drop (suc k) (b ∷ s) h =
    number_drop k s (λ i. h (suc i)) ∙ ap (λ (y : ℕ). y / 256 ^ k) (sym (tail_bytes b (number s) (h 0)))
    ∙ sym (div_byte k (b + 256 * number s))

-- ---- the bytes of a number

pub length_bytes : (n x : ℕ) → length (bytes n x) ≡ n
unfolding bytes
length_bytes zero x = refl
length_bytes (suc n) x = ap suc (length_bytes n (x / 256))

pub bytes_are : (n x : ℕ) → AllBytes (bytes n x)
unfolding bytes
bytes_are zero x i = omega arith
bytes_are (suc n) x zero = omega arith
bytes_are (suc n) x (suc i) = bytes_are n (x / 256) i

pub number_bytes : (n x : ℕ) → number (bytes n x) ≡ x % 256 ^ n
unfolding number bytes
number_bytes zero x = omega arith
number_bytes (suc n) x =
    let e = number_bytes n (x / 256) in
    let m = mod_byte n x in omega arith

pub bytes_number : (s : List ℕ) → AllBytes s → bytes (length s) (number s) ≡ s
unfolding number bytes
bytes_number [] h = refl
bytes_number (b ∷ s) h =
    ap₂ (λ (x : ℕ) (t : List ℕ). x ∷ t) (head_byte b (number s) (h 0))
    (ap (bytes (length s)) (tail_bytes b (number s) (h 0)) ∙ bytes_number s (λ i. h (suc i)))

pub bytes_split : (m n x : ℕ) → bytes (m + n) x ≡ bytes m x ++ bytes n (x / 256 ^ m)
unfolding bytes
bytes_split zero n x =
    let e : 0 + n ≡ n = omega arith in
    let d : x / 1 ≡ x = omega arith in rw (e, d)
bytes_split (suc m) n x =
    let e : suc m + n ≡ suc (m + n) = omega arith in
    rw e (ap (λ (t : List ℕ). x % 256 ∷ t) (bytes_split m n (x / 256) ∙ ap (λ (y : ℕ). bytes m (x / 256) ++ bytes n y) (sym (div_byte m x))))

pub bytes_mod : (n x : ℕ) → bytes n (x % 256 ^ n) ≡ bytes n x
bytes_mod n x =
    let b = bytes n x in
    let l = length_bytes n x in
    ap (bytes n) (sym (number_bytes n x)) ∙ ap (λ (m : ℕ). bytes m (number b)) (sym l) ∙ bytes_number b (bytes_are n x)

-- a number on top of another
pub bytes_join : (m n x y : ℕ) → x < 256 ^ m → bytes (m + n) (x + 256 ^ m * y) ≡ bytes m x ++ bytes n y
bytes_join m n x y h =
    let p : 0 < 256 ^ m = omega arith in
    let low : bytes m (x + 256 ^ m * y) ≡ bytes m x =
    sym (bytes_mod m (x + 256 ^ m * y)) ∙ ap (bytes m) (add-mul-mod_self_left x (256 ^ m) y ∙ mod-eq_of_lt h) in
    let high : (x + 256 ^ m * y) / 256 ^ m ≡ y = add-mul-div_left x y p ∙ ap (λ (q : ℕ). q + y) (div-eq_of_lt h) ∙ omega arith in
    bytes_split m n (x + 256 ^ m * y) ∙ ap₂ (λ (s : List ℕ) (z : ℕ). s ++ bytes n z) low high

-- ---- lists of bytes

pub zero_bytes : (n : ℕ) → AllBytes (replicate n 0)
zero_bytes zero i = omega arith
zero_bytes (suc n) zero = omega arith
zero_bytes (suc n) (suc i) = zero_bytes n i

pub append_bytes : (s t : List ℕ) → AllBytes s → AllBytes t → AllBytes (s ++ t)
append_bytes [] t hs ht i = ht i
append_bytes (b ∷ s) t hs ht zero = hs 0
append_bytes (b ∷ s) t hs ht (suc i) = append_bytes s t (λ j. hs (suc j)) ht i

pub take_bytes : (k : ℕ) (s : List ℕ) → AllBytes s → AllBytes (take k s)
take_bytes zero s h i = omega arith
take_bytes (suc k) [] h i = omega arith
take_bytes (suc k) (b ∷ s) h zero = h 0
take_bytes (suc k) (b ∷ s) h (suc i) = take_bytes k s (λ j. h (suc j)) i

pub drop_bytes : (k : ℕ) (s : List ℕ) → AllBytes s → AllBytes (drop k s)
drop_bytes k s h i = rw get_or-drop (h (k + i))

-- ---- the bytes at a place

-- the first byte of a part, and the rest
pub number_first : (s : List ℕ) (k : ℕ) → k < length s → number (drop k s) ≡ get_or s k 0 + 256 * number (drop (k + 1) s)
unfolding number
number_first s k h = rw (add-one, drop-cons s k 0)

-- n bytes of a part, and the rest
pub number_part : (n : ℕ) (s : List ℕ) (k : ℕ) → k + n ≤ length s
    → number (drop k s) ≡ number (take n (drop k s)) + 256 ^ n * number (drop (k + n) s)
number_part n s k h =
    let l : length (take n (drop k s)) ≡ n = length-take-le n (drop k s) (simp length-drop (omega arith)) in
    ap number (sym (take-append-drop n (drop k s))) ∙ number_append (take n (drop k s)) (drop n (drop k s))
    ∙ ap₂ (λ (m : ℕ) (t : List ℕ). number (take n (drop k s)) + 256 ^ m * number t) l (drop-drop n k s)

-- ---- the library's reading and writing of a number

read_through : (s : List ℕ) (k : ℕ) → k < length s → sum_through (λ i. byte_worth i (get_or s i 0)) k ≡ number (take (suc k) s)
unfolding number
read_through [] zero h = absurd (omega arith)
read_through (b ∷ s) zero h = omega arith
read_through s (suc k) h =
    let e = read_through s k (omega arith) in
    let l = length-take-le (suc k) s (omega arith) in
    let p = number_append (take (suc k) s) (get_or s (suc k) 0 ∷ []) in
    let m = ap (λ (n : ℕ). 256 ^ n * number (get_or s (suc k) 0 ∷ [])) l in
    let c = mul_comm (256 ^ suc k) (get_or s (suc k) 0) in
    rw (take-suc s (suc k) 0 h) (omega arith)

pub number_2 : (s : List ℕ) → length s ≡ 2 → from_le_bytes w16 s ≡ number s
number_2 s h = read_through s 1 (omega arith) ∙ ap number (take_all 2 s (omega arith))

pub number_8 : (s : List ℕ) → length s ≡ 8 → from_le_bytes w64 s ≡ number s
number_8 s h = read_through s 7 (omega arith) ∙ ap number (take_all 8 s (omega arith))

-- one byte further on
div_further : (k x : ℕ) → x / 256 ^ suc k ≡ x / 256 ^ k / 256
div_further k x = ap (λ (n : ℕ). x / n) (pow-suc 256 k) ∙ sym (div-div-eq-div-mul x (256 ^ k) 256)

written_from : (i k x : ℕ) → bytes_low_first i k x ≡ bytes k (x / 256 ^ i)
unfolding bytes
written_from i zero x = refl
written_from zero (suc k) x = let d : x / 1 ≡ x = omega arith in rw d (ap (λ (t : List ℕ). x % 256 ∷ t) (written_from 1 k x))
written_from (suc i) (suc k) x =
    ap (λ (t : List ℕ). x / 256 ^ suc i % 256 ∷ t) (written_from (suc (suc i)) k x ∙ ap (bytes k) (div_further (suc i) x))

pub bytes_2 : (x : ℕ) → to_le_bytes w16 x ≡ bytes 2 x
bytes_2 x = written_from 0 2 x ∙ ap (bytes 2) (omega arith)

pub bytes_8 : (x : ℕ) → to_le_bytes w64 x ≡ bytes 8 x
bytes_8 x = written_from 0 8 x ∙ ap (bytes 8) (omega arith)

-- ---- a replay flit's bits 159:96 are its DL content

pub replay_drop : (k : ℕ) (flit : List ℕ) → AllBytes flit → replay_content flit / 256 ^ k ≡ number (drop (44 + k) flit)
replay_drop k flit h = sym (number_drop k (drop 44 flit) (drop_bytes 44 flit h)) ∙ ap number (drop-drop k 44 flit)

-- and the numbers below them stand in whole bytes
pub replay_number : (k n : ℕ) (flit : List ℕ) → AllBytes flit → replay_content flit / 256 ^ k % 256 ^ n ≡ number (take n (drop (44 + k) flit))
replay_number k n flit h =
    ap (λ (x : ℕ). x % 256 ^ n) (replay_drop k flit h) ∙ sym (number_take n (drop (44 + k) flit) (drop_bytes (44 + k) flit h))

pub replay_field : (flit : List ℕ) → AllBytes flit → (high low : ℕ)
    → read (span (96 + high) (96 + low)) (replay_content flit) ≡ read (span high low) (content flit)
replay_field flit h high low =
    let w : suc (96 + high) - (96 + low) ≡ suc high - low = omega arith in
    let d : replay_content flit / 2 ^ (96 + low) ≡ content flit / 2 ^ low =
    ap (λ (n : ℕ). replay_content flit / n) (pow-add 2 96 low) ∙ sym (div-div-eq-div-mul (replay_content flit) (2 ^ 96) (2 ^ low))
    ∙ ap (λ (n : ℕ). n / 2 ^ low) (replay_drop 12 flit h) in
    ap₂ (λ (q m : ℕ). q % 2 ^ m) d w

-- ---- no field holds more than its bits

pub record FieldsFit (x : Fields) : Type 0 where
  pub run : x.run.0 ≤ 15
  pub acks : x.acks.0 ≤ 31
  pub stalled_run : x.stall.0 ≤ 15
  pub previous_run : x.previous.0 ≤ 15
  pub starting : x.start.0 < 2 ^ 16
  pub acknowledge : x.last.0 < 2 ^ 16
  pub information : x.information < 2 ^ 64

pub fields_fit : (flit : List ℕ) → FieldsFit (fields_of flit)
unfolding fields_of
fields_fit flit =
    record {
      run = omega arith;
      acks = omega arith;
      stalled_run = omega arith;
      previous_run = omega arith;
      starting = omega arith;
      acknowledge = omega arith;
      information = omega arith;
    }
