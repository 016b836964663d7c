-- Sealing. Of a unit with c in its check field the division leaves c plus what it leaves of the same unit with zeros there: so the unit is
-- right with that remainder in the field, and with nothing else. A sealed unit keeps its length and every bit before the field.
use mathlib.Core.Path.{◌≡◌, refl, sym, ap, ap₂, ◌∙◌, subst}
use mathlib.Core.Bool.{Bool, true, false, cond, ◌&&◌}
use mathlib.Core.List.{List, [], ◌∷◌, ◌++◌, append_assoc}
use Prim.Native.Nat.{ℕ, zero, suc, ◌+◌, ◌-◌, ◌*◌, ◌/◌, ◌%◌, ◌^◌, ◌<◌, ◌≤◌}
use native.Mathlib.Nat.{add_comm, mod-eq_of_lt}
use native.Mathlib.Omega.{arith}
use lib.Dec.{leb}
use borrow.Author.Tests.{le-leb, lt-leb, leb-true, leb-false}
use lib.Seq.{take_at, get_or_at, drop-cons, length-take-le}
use lib.ListN.{length, take, drop, get_or, replicate, length-append, length-replicate, length-map, take-append-drop}
use lib.Pow.{mod-pow-add}
use lib.Bits.{bit_xor, xor_self, xor_shifted}
use Rattle.crc.specs.Poly.{plus, scale, divide, remainder}
use Rattle.crc.specs.Unit.{polynomial, bits, bits_of, IsRight, right, AllBytes}
use Rattle.crc.specs.Seal.{check_bytes, with_check, check_of, sealed}
use Rattle.crc.specs.Register.{bits_number, places}
use Rattle.crc.proofs.Xor.{◌⊕◌, same_of_zero}
use Rattle.crc.proofs.Places.{places_xor, places_shift, places_add}
use Rattle.crc.proofs.Numbers.{number_append, number_bits_of, number_inj, number_lt, number_remainder, length_bits_of, trailing}
use Rattle.crc.proofs.Divides.{low, polynomial_low, length_low, plus_right, decides, right_Right}
use Rattle.crc.proofs.Bytes.{number_bits, bits_append, length_bits}

-- ---- for any polynomial with first coefficient 1

module _ (low : List Bool) where
  length_divide : (n : ℕ) (u : List Bool) → length u ≡ length low + n → length (divide low n u) ≡ length low
  length_divide zero u l = omega arith
  length_divide (suc n) [] l = absurd (omega arith)
  length_divide (suc n) (h ∷ u) l =
      let m : length (scale h low) ≡ length low = length-map low (λ c. h && c) in
      length_divide n (plus (scale h low) u) (plus_right (scale h low) u (omega arith) ∙ omega arith)

  length_remainder : (u : List Bool) → length (remainder (true ∷ low) u) ≡ length low
  length_remainder u =
      length_divide (length u) (replicate (length low) false ++ u)
      (length-append (replicate (length low) false) u ∙ ap (λ (n : ℕ). n + length u) (length-replicate (length low) false))

  -- the remainder without the room in front
  roomless : (u : List Bool) (n : ℕ) → length u ≡ length low + n → bits_number (remainder (true ∷ low) u) ≡ places (bits_number low) n (bits_number u)
  roomless u n l =
      number_remainder low u
      ∙ ap (λ (k : ℕ). places (bits_number low) k (bits_number u * 2 ^ length low)) l
      ∙ places_add (bits_number low) (length low) n (bits_number u * 2 ^ length low)
      ∙ ap (places (bits_number low) n) (places_shift (bits_number low) (length low) (bits_number u))

  -- what is left of a unit that ends in c
  left_ending : (d c : List Bool) → length c ≡ length low
      → bits_number (remainder (true ∷ low) (d ++ c)) ≡ bits_number c ⊕ bits_number (remainder (true ∷ low) (d ++ replicate (length low) false))
  left_ending d c l =
      let g = bits_number low in
      let n = length d in
      roomless (d ++ c) n (length-append d c ∙ ap (λ (k : ℕ). n + k) l ∙ add_comm n (length low))
      ∙ ap (places g n) (number_append d c ∙ sym (xor_shifted (bits_number c) n (bits_number d) (number_lt d)))
      ∙ places_xor g n (bits_number c * 2 ^ n) (bits_number d)
      ∙ ap₂ bit_xor (places_shift g n (bits_number c))
      (ap (places g n) (sym (trailing d (length low)))
      ∙ sym (roomless (d ++ replicate (length low) false) n
      (length-append d (replicate (length low) false) ∙ ap (λ (k : ℕ). n + k) (length-replicate (length low) false) ∙ add_comm n (length low))))

-- ---- the check field

five : (b0 b1 b2 b3 b4 : ℕ) → bits_number (bits (b0 ∷ b1 ∷ b2 ∷ b3 ∷ b4 ∷ []))
    ≡ ((((0 * 2 ^ 8 + b4 % 2 ^ 8) * 2 ^ 8 + b3 % 2 ^ 8) * 2 ^ 8 + b2 % 2 ^ 8) * 2 ^ 8 + b1 % 2 ^ 8) * 2 ^ 8 + b0 % 2 ^ 8
unfolding bits
five b0 b1 b2 b3 b4 =
    number_bits b0 (b1 ∷ b2 ∷ b3 ∷ b4 ∷ []) ∙ ap (λ (n : ℕ). n * 2 ^ 8 + b0 % 2 ^ 8)
    (number_bits b1 (b2 ∷ b3 ∷ b4 ∷ []) ∙ ap (λ (n : ℕ). n * 2 ^ 8 + b1 % 2 ^ 8)
    (number_bits b2 (b3 ∷ b4 ∷ []) ∙ ap (λ (n : ℕ). n * 2 ^ 8 + b2 % 2 ^ 8)
    (number_bits b3 (b4 ∷ []) ∙ ap (λ (n : ℕ). n * 2 ^ 8 + b3 % 2 ^ 8) (number_bits b4 []))))

again : (n : ℕ) → n % 256 % 2 ^ 8 ≡ n % 256
again n = omega arith

shared : (x c : ℕ) → (x % 16 + c % 16 * 16) % 2 ^ 8 ≡ x % 16 + c % 16 * 16
shared x c = omega arith

sums : (x c0 c1 c2 c3 c4 m36 m28 m20 m12 : ℕ) → m36 ≡ c4 * 2 ^ 28 + m28 → m28 ≡ c3 * 2 ^ 20 + m20 → m20 ≡ c2 * 2 ^ 12 + m12 → m12 ≡ c1 * 2 ^ 4 + c0
    → ((((0 * 2 ^ 8 + c4) * 2 ^ 8 + c3) * 2 ^ 8 + c2) * 2 ^ 8 + c1) * 2 ^ 8 + (x + c0 * 16) ≡ m36 * 2 ^ 4 + x
sums x c0 c1 c2 c3 c4 m36 m28 m20 m12 e f g h = omega arith

field_number : (x c : ℕ)
    → ((((0 * 2 ^ 8 + c / 2 ^ 28 % 256 % 2 ^ 8) * 2 ^ 8 + c / 2 ^ 20 % 256 % 2 ^ 8) * 2 ^ 8 + c / 2 ^ 12 % 256 % 2 ^ 8) * 2 ^ 8 + c / 2 ^ 4 % 256 % 2 ^ 8) * 2 ^ 8 + (x % 16 + c % 16 * 16) % 2 ^ 8
    ≡ c % 2 ^ 36 * 2 ^ 4 + x % 2 ^ 4
field_number x c =
    rw (again (c / 2 ^ 28), again (c / 2 ^ 20), again (c / 2 ^ 12), again (c / 2 ^ 4), shared x c)
    (sums (x % 16) (c % 16) (c / 2 ^ 4 % 256) (c / 2 ^ 12 % 256) (c / 2 ^ 20 % 256) (c / 2 ^ 28 % 256)
    (c % 2 ^ 36) (c % 2 ^ 28) (c % 2 ^ 20) (c % 2 ^ 12)
    (mod-pow-add c 8 28) (mod-pow-add c 8 20) (mod-pow-add c 8 12) (mod-pow-add c 8 4))

bits_field : (x c : ℕ) → bits (check_bytes x c) ≡ bits_of 4 x ++ bits_of 36 c
unfolding bits
bits_field x c =
    number_inj (bits (check_bytes x c)) (bits_of 4 x ++ bits_of 36 c) refl
    (five (x % 16 + c % 16 * 16) (c / 2 ^ 4 % 256) (c / 2 ^ 12 % 256) (c / 2 ^ 20 % 256) (c / 2 ^ 28 % 256) ∙ field_number x c
    ∙ sym (number_append (bits_of 4 x) (bits_of 36 c) ∙ ap₂ (λ (m n : ℕ). m * 2 ^ 4 + n) (number_bits_of 36 c) (number_bits_of 4 x)))

-- all of a unit's bits before the check field
abbrev data_bits : List ℕ → List Bool
data_bits bs = bits (take (length bs - 5) bs) ++ bits_of 4 (get_or bs (length bs - 5) 0)

bits_with : (bs : List ℕ) (c : ℕ) → bits (with_check bs c) ≡ data_bits bs ++ bits_of 36 c
unfolding with_check
bits_with bs c =
    let t = take (length bs - 5) bs in
    let x = get_or bs (length bs - 5) 0 in
    bits_append t (check_bytes x c) ∙ ap (λ (v : List Bool). bits t ++ v) (bits_field x c)
    ∙ sym (append_assoc (bits t) (bits_of 4 x) (bits_of 36 c))

left_check : (d : List Bool) (c : ℕ)
    → bits_number (remainder polynomial (d ++ bits_of 36 c)) ≡ (c % 2 ^ 36) ⊕ bits_number (remainder polynomial (d ++ bits_of 36 0))
left_check d c =
    subst (λ (p : List Bool). bits_number (remainder p (d ++ bits_of 36 c)) ≡ (c % 2 ^ 36) ⊕ bits_number (remainder p (d ++ bits_of 36 0)))
    (sym polynomial_low)
    (left_ending low d (bits_of 36 c) (length_bits_of 36 c ∙ sym length_low)
    ∙ ap₂ (λ (x n : ℕ). x ⊕ bits_number (remainder (true ∷ low) (d ++ replicate n false))) (number_bits_of 36 c) length_low)

left_with : (bs : List ℕ) (c : ℕ) → bits_number (remainder polynomial (bits (with_check bs c))) ≡ (c % 2 ^ 36) ⊕ check_of bs
unfolding check_of
left_with bs c =
    ap (λ (u : List Bool). bits_number (remainder polynomial u)) (bits_with bs c) ∙ left_check (data_bits bs) c
    ∙ ap (λ (u : List Bool). (c % 2 ^ 36) ⊕ bits_number (remainder polynomial u)) (sym (bits_with bs 0))

check_lt : (bs : List ℕ) → check_of bs < 2 ^ 36
unfolding check_of
check_lt bs =
    let u = bits (with_check bs 0) in
    let l : length (remainder polynomial u) ≡ 36 = ap (λ (p : List Bool). length (remainder p u)) polynomial_low ∙ length_remainder low u ∙ length_low in
    subst (λ (n : ℕ). bits_number (remainder polynomial u) < 2 ^ n) l (number_lt (remainder polynomial u))

-- ---- a check field written twice

length_with : (bs : List ℕ) (c : ℕ) → 5 ≤ length bs → length (with_check bs c) ≡ length bs
unfolding with_check
length_with bs c h =
    length-append (take (length bs - 5) bs) (check_bytes (get_or bs (length bs - 5) 0) c)
    ∙ ap (λ (n : ℕ). n + 5) (length-take-le (length bs - 5) bs (omega arith)) ∙ omega arith

take_with : (bs : List ℕ) (c : ℕ) → 5 ≤ length bs → take (length bs - 5) (with_check bs c) ≡ take (length bs - 5) bs
unfolding with_check
take_with bs c h =
    take_at (take (length bs - 5) bs) (check_bytes (get_or bs (length bs - 5) 0) c) (length bs - 5) (length-take-le (length bs - 5) bs (omega arith))

getD_with : (bs : List ℕ) (c : ℕ) → 5 ≤ length bs → get_or (with_check bs c) (length bs - 5) 0 ≡ get_or bs (length bs - 5) 0 % 16 + c % 16 * 16
unfolding with_check
getD_with bs c h =
    get_or_at (take (length bs - 5) bs) (get_or bs (length bs - 5) 0 % 16 + c % 16 * 16)
    (c / 2 ^ 4 % 256 ∷ c / 2 ^ 12 % 256 ∷ c / 2 ^ 20 % 256 ∷ c / 2 ^ 28 % 256 ∷ []) 0 (length bs - 5)
    (length-take-le (length bs - 5) bs (omega arith))

low_four : (x c : ℕ) → (x % 16 + c % 16 * 16) % 16 ≡ x % 16
low_four x c = omega arith

-- the second takes the first's place
pub with_twice : (bs : List ℕ) (c d : ℕ) → 5 ≤ length bs → with_check (with_check bs c) d ≡ with_check bs d
unfolding with_check
with_twice bs c d h =
    ap (λ (n : ℕ). take (n - 5) (with_check bs c) ++ check_bytes (get_or (with_check bs c) (n - 5) 0) d) (length_with bs c h)
    ∙ ap₂ (λ (t : List ℕ) (x : ℕ). t ++ check_bytes x d) (take_with bs c h) (getD_with bs c h)
    ∙ ap
    (λ (x : ℕ). take (length bs - 5) bs ++ ((x + d % 16 * 16) ∷ d / 2 ^ 4 % 256 ∷ d / 2 ^ 12 % 256 ∷ d / 2 ^ 20 % 256 ∷ d / 2 ^ 28 % 256 ∷ []))
    (low_four (get_or bs (length bs - 5) 0) c)

-- ---- what sealing does

pub sealed_long : (bs : List ℕ) → 5 ≤ length bs → sealed bs ≡ with_check bs (check_of bs)
unfolding sealed
sealed_long bs h = ap (λ (t : Bool). cond t (with_check bs (check_of bs)) bs) (le-leb 5 (length bs) h)

pub sealed_short : (bs : List ℕ) → length bs < 5 → sealed bs ≡ bs
unfolding sealed
sealed_short bs h = ap (λ (t : Bool). cond t (with_check bs (check_of bs)) bs) (lt-leb 5 (length bs) h)

-- what holds of a short list and of a long one holds
by_length : (P : Type 0) (bs : List ℕ) → (5 ≤ length bs → P) → (length bs < 5 → P) → P
by_length P bs long short = go (leb 5 (length bs)) refl
  where
    go : (t : Bool) → leb 5 (length bs) ≡ t → P
    go true e = long (leb-true 5 (length bs) e)
    go false e = short (leb-false 5 (length bs) e)

-- the length stays
pub length_sealed : (bs : List ℕ) → length (sealed bs) ≡ length bs
length_sealed bs =
    by_length (length (sealed bs) ≡ length bs) bs
    (λ h. ap length (sealed_long bs h) ∙ length_with bs (check_of bs) h)
    (λ h. ap length (sealed_short bs h))

-- the bytes before the last five stay
pub sealed_keeps_bytes : (bs : List ℕ) → take (length bs - 5) (sealed bs) ≡ take (length bs - 5) bs
sealed_keeps_bytes bs =
    by_length (take (length bs - 5) (sealed bs) ≡ take (length bs - 5) bs) bs
    (λ h. ap (take (length bs - 5)) (sealed_long bs h) ∙ take_with bs (check_of bs) h)
    (λ h. ap (take (length bs - 5)) (sealed_short bs h))

-- and so does the low half of the first of those five
pub sealed_keeps_half : (bs : List ℕ) → get_or (sealed bs) (length bs - 5) 0 % 16 ≡ get_or bs (length bs - 5) 0 % 16
sealed_keeps_half bs =
    by_length (get_or (sealed bs) (length bs - 5) 0 % 16 ≡ get_or bs (length bs - 5) 0 % 16) bs
    (λ h. ap (λ (s : List ℕ). get_or s (length bs - 5) 0 % 16) (sealed_long bs h) ∙ ap (λ (x : ℕ). x % 16) (getD_with bs (check_of bs) h)
    ∙ low_four (get_or bs (length bs - 5) 0) (check_of bs))
    (λ h. ap (λ (s : List ℕ). get_or s (length bs - 5) 0 % 16) (sealed_short bs h))

length_data : (bs : List ℕ) → 5 ≤ length bs → length (data_bits bs) ≡ length (bits bs) - 36
length_data bs h =
    let t = take (length bs - 5) bs in
    let l : length t ≡ length bs - 5 = length-take-le (length bs - 5) bs (omega arith) in
    length-append (bits t) (bits_of 4 (get_or bs (length bs - 5) 0)) ∙ omega (arith, length_bits t, length_bits bs)

-- a unit's bits are those before the field, and 36 more
bits_data : (bs : List ℕ) → 5 ≤ length bs
    → bits bs ≡ data_bits bs ++ (bits_of 4 (get_or bs (length bs - 5) 0 / 2 / 2 / 2 / 2) ++ bits (drop (suc (length bs - 5)) bs))
unfolding bits
bits_data bs h =
    let n = length bs - 5 in
    let x = get_or bs n 0 in
    ap bits (sym (take-append-drop n bs)) ∙ bits_append (take n bs) (drop n bs)
    ∙ ap (λ (s : List ℕ). bits (take n bs) ++ bits s) (drop-cons bs n 0 (omega arith))
    ∙ sym (append_assoc (bits (take n bs)) (bits_of 4 x) (bits_of 4 (x / 2 / 2 / 2 / 2) ++ bits (drop (suc n) bs)))

-- every bit but the last 36 stays
pub sealed_keeps_bits : (bs : List ℕ) → take (length (bits bs) - 36) (bits (sealed bs)) ≡ take (length (bits bs) - 36) (bits bs)
sealed_keeps_bits bs =
    let n = length (bits bs) - 36 in
    let x = get_or bs (length bs - 5) 0 in
    by_length (take n (bits (sealed bs)) ≡ take n (bits bs)) bs
    (λ h.
    ap (λ (s : List ℕ). take n (bits s)) (sealed_long bs h)
    ∙ ap (take n) (bits_with bs (check_of bs)) ∙ take_at (data_bits bs) (bits_of 36 (check_of bs)) n (length_data bs h)
    ∙ sym (ap (take n) (bits_data bs h)
    ∙ take_at (data_bits bs) (bits_of 4 (x / 2 / 2 / 2 / 2) ++ bits (drop (suc (length bs - 5)) bs)) n (length_data bs h)))
    (λ h. ap (λ (s : List ℕ). take n (bits s)) (sealed_short bs h))

-- bytes stay bytes
bytes_append : (xs ys : List ℕ) → AllBytes xs → AllBytes ys → AllBytes (xs ++ ys)
bytes_append [] ys hx hy i = hy i
bytes_append (x ∷ xs) ys hx hy zero = hx 0
bytes_append (x ∷ xs) ys hx hy (suc i) = bytes_append xs ys (λ j. hx (suc j)) hy i

bytes_take : (n : ℕ) (xs : List ℕ) → AllBytes xs → AllBytes (take n xs)
bytes_take zero xs h i = omega arith
bytes_take (suc n) [] h i = omega arith
bytes_take (suc n) (x ∷ xs) h zero = h 0
bytes_take (suc n) (x ∷ xs) h (suc i) = bytes_take n xs (λ j. h (suc j)) i

bytes_field : (x c : ℕ) → AllBytes (check_bytes x c)
bytes_field x c zero = omega arith
bytes_field x c (suc zero) = omega arith
bytes_field x c (suc (suc zero)) = omega arith
bytes_field x c (suc (suc (suc zero))) = omega arith
bytes_field x c (suc (suc (suc (suc zero)))) = omega arith
bytes_field x c (suc (suc (suc (suc (suc i))))) = omega arith

pub sealed_bytes : (bs : List ℕ) → AllBytes bs → AllBytes (sealed bs)
unfolding with_check
sealed_bytes bs b =
    let n = length bs - 5 in
    by_length (AllBytes (sealed bs)) bs
    (λ h. subst AllBytes (sym (sealed_long bs h)) (bytes_append (take n bs) (check_bytes (get_or bs n 0) (check_of bs)) (bytes_take n bs b) (bytes_field (get_or bs n 0) (check_of bs))))
    (λ h. subst AllBytes (sym (sealed_short bs h)) b)

-- sealing what is sealed changes nothing
pub sealed_twice : (bs : List ℕ) → sealed (sealed bs) ≡ sealed bs
unfolding check_of
sealed_twice bs =
    by_length (sealed (sealed bs) ≡ sealed bs) bs
    (λ h.
    let c = check_of bs in
    let s = with_check bs c in
    let l : 5 ≤ length s = omega (arith, length_with bs c h) in
    let e : check_of s ≡ c = ap (λ (z : List ℕ). bits_number (remainder polynomial (bits z))) (with_twice bs c 0 h) in
    ap sealed (sealed_long bs h) ∙ sealed_long s l ∙ ap (with_check s) e ∙ with_twice bs c c h ∙ sym (sealed_long bs h))
    (λ h. ap sealed (sealed_short bs h))

-- a sealed unit is right
pub sealed_Right : (bs : List ℕ) → 5 ≤ length bs → IsRight (sealed bs)
unfolding IsRight
sealed_Right bs h =
    let c = check_of bs in
    (decides (bits (sealed bs))).0
    (ap (λ (s : List ℕ). bits_number (remainder polynomial (bits s))) (sealed_long bs h) ∙ left_with bs c
    ∙ ap (λ (x : ℕ). x ⊕ c) (mod-eq_of_lt (check_lt bs)) ∙ xor_self c)

pub sealed_right : (bs : List ℕ) → 5 ≤ length bs → right (sealed bs) ≡ true
sealed_right bs h = (right_Right (sealed bs)).1 (sealed_Right bs h)

-- and no other check field would make it so
pub no_other_check : (bs : List ℕ) (c : ℕ) → c < 2 ^ 36 → IsRight (with_check bs c) → c ≡ check_of bs
unfolding IsRight
no_other_check bs c h r =
    sym (mod-eq_of_lt h)
    ∙ same_of_zero (c % 2 ^ 36) (check_of bs) (sym (left_with bs c) ∙ (decides (bits (with_check bs c))).1 r)
