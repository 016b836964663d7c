-- `crc::put_check` meets its contract: five stores in a row.
use mathlib.Core.Path.{◌≡◌, ◌∙◌, ap, ap₂}
use mathlib.Core.List.{List, [], ◌∷◌, ◌++◌, append-nil}
use Prim.Native.Nat.{ℕ, ◌+◌, ◌-◌, ◌*◌, ◌/◌, ◌%◌, ◌^◌, ◌<◌, ◌≤◌}
use native.Mathlib.Nat.{mod-eq_of_lt, add_comm}
use native.Mathlib.Numerals.{add-one}
use native.Mathlib.Omega.{arith}
use lib.ListN.{length, take, drop, get_or, set, length-set}
use lib.Seq.{sets, sets-eq, drop-length}
use lib.Bits.{bit_and, bit_or, and_mask, mask_lt, or_shifted_r}
use Rattle.crc.specs.Seal.{with_check, check_bytes}
use Rattle.crc.proofs.put_check.Goals as goal

low_byte : (n : ℕ) → bit_and n 255 < 256
low_byte n = mask_lt n 8

pub overflow_cast-high : goal.overflow_cast-high
overflow_cast-high c = omega (arith, mask_lt c.args.check 4)

pub overflow_cast-unit : goal.overflow_cast-unit
overflow_cast-unit c = search low_byte

pub bounds-unit-b : goal.bounds-unit-b
bounds-unit-b c = simp length-set (omega arith)

pub overflow_cast-unit-2 : goal.overflow_cast-unit-2
overflow_cast-unit-2 c = search low_byte

pub bounds-unit-c : goal.bounds-unit-c
bounds-unit-c c = simp length-set (omega arith)

pub overflow_cast-unit-3 : goal.overflow_cast-unit-3
overflow_cast-unit-3 c = search low_byte

pub bounds-unit-d : goal.bounds-unit-d
bounds-unit-d c = simp length-set (omega arith)

pub overflow_cast-unit-4 : goal.overflow_cast-unit-4
overflow_cast-unit-4 c = search low_byte

pub bounds-unit-e : goal.bounds-unit-e
bounds-unit-e c = simp length-set (omega arith)

-- the five values
first : (x r : ℕ) → bit_or (bit_and x 15) (bit_and r 15 * 16 % 2 ^ 64) ≡ x % 16 + r % 16 * 16
first x r =
    ap₂ bit_or (and_mask x 4)
    (ap (λ (n : ℕ). n * 16 % 2 ^ 64) (and_mask r 4) ∙ mod-eq_of_lt (omega arith))
    ∙ or_shifted_r (r % 16) 4 (x % 16) (omega arith) ∙ add_comm (r % 16 * 16) (x % 16)

run : (s : List ℕ) (a v0 v1 v2 v3 v4 : ℕ)
    → set (set (set (set (set s a v0) (a + 1) v1) (a + 1 + 1) v2) (a + 1 + 1 + 1) v3) (a + 1 + 1 + 1 + 1) v4
    ≡ sets s a (v0 ∷ v1 ∷ v2 ∷ v3 ∷ v4 ∷ [])
run s a v0 v1 v2 v3 v4 = simp add-one

stored : (s : List ℕ) (r : ℕ) → 5 ≤ length s
    → sets s (length s - 5)
    (bit_or (bit_and (get_or s (length s - 5) 0) 15) (bit_and r 15 * 16 % 2 ^ 64)
    ∷ bit_and (r / 2 ^ 4) 255 ∷ bit_and (r / 2 ^ 12) 255 ∷ bit_and (r / 2 ^ 20) 255 ∷ bit_and (r / 2 ^ 28) 255 ∷ [])
    ≡ with_check s r
unfolding with_check
stored s r h =
    let x = get_or s (length s - 5) 0 in
    let l : length s - 5 + 5 ≡ length s = omega arith in
    ap₂ (λ (v : ℕ) (vs : List ℕ). sets s (length s - 5) (v ∷ vs)) (first x r)
    (ap₂ {C = List ℕ} (λ (v : ℕ) (vs : List ℕ). v ∷ vs) (and_mask (r / 2 ^ 4) 8)
    (ap₂ {C = List ℕ} (λ (v : ℕ) (vs : List ℕ). v ∷ vs) (and_mask (r / 2 ^ 12) 8)
    (ap₂ {C = List ℕ} (λ (v w : ℕ). v ∷ w ∷ []) (and_mask (r / 2 ^ 20) 8) (and_mask (r / 2 ^ 28) 8))))
    ∙ sets-eq (check_bytes x r) s (length s - 5) (omega arith)
    ∙ ap (λ (v : List ℕ). take (length s - 5) s ++ check_bytes x r ++ v) (ap (λ (n : ℕ). drop n s) l ∙ drop-length s)
    ∙ append-nil (take (length s - 5) s ++ check_bytes x r)

pub returns : goal.returns
returns c = let s = c.args.unit.now in
    let r = c.args.check in
    run s (length s - 5) (bit_or (bit_and (get_or s (length s - 5) 0) 15) (bit_and r 15 * 16 % 2 ^ 64))
    (bit_and (r / 2 ^ 4) 255) (bit_and (r / 2 ^ 12) 255) (bit_and (r / 2 ^ 20) 255) (bit_and (r / 2 ^ 28) 255)
    ∙ stored s r c.requires
