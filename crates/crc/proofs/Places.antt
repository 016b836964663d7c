-- Division in a register, for any polynomial and any number n of places taken at a time. A place is linear, and works on numbers of any
-- size, so a whole unit is one number. n places of it are its bits above the lowest n, and what n places make of those n alone: that is
-- what a table of 2 ^ n entries holds.
use mathlib.Core.Path.{◌≡◌, refl, sym, ap, ap₂, ◌∙◌}
use mathlib.Core.Bool.{Bool, true, false}
use Prim.Native.Nat.{ℕ, zero, suc, ◌+◌, ◌*◌, ◌/◌, ◌%◌, ◌^◌, ◌<◌}
use native.Mathlib.Nat.{mod-lt, mul-div_cancel, mul-mod_left, mul_assoc, mul_comm, mul_right_comm, pow-suc, mul-one, zero-add, suc-add, lt_of_le_of_lt}
use lib.Pow.{split, pow_pos, pow-add, shr_le}
use lib.Bits.{bit_xor, xor_zero_r, xor_comm, xor_self, xor_shifted, xor_lt}
use Rattle.crc.specs.Poly.{xor}
use Rattle.crc.specs.Unit.{odd, is_one}
use Rattle.crc.specs.Register.{pick, place, places}
use Rattle.crc.proofs.Xor.{◌⊕◌, two_pos, xor_half, xor_assoc, xor_shl, exchange, odd_xor}

pick_xor : (a b : Bool) (g : ℕ) → pick (xor a b) g ≡ pick a g ⊕ pick b g
pick_xor false b g = refl
pick_xor true false g = sym (xor_zero_r g)
pick_xor true true g = sym (xor_self g)

pub place_xor : (g a b : ℕ) → place g (a ⊕ b) ≡ place g a ⊕ place g b
place_xor g a b =
    ap₂ bit_xor (xor_half a b) (ap (λ (x : Bool). pick x g) (odd_xor a b) ∙ pick_xor (odd a) (odd b) g)
    ∙ exchange (a / 2) (b / 2) (pick (odd a) g) (pick (odd b) g)

pub places_xor : (g n a b : ℕ) → places g n (a ⊕ b) ≡ places g n a ⊕ places g n b
places_xor g zero a b = refl
places_xor g (suc n) a b = ap (places g n) (place_xor g a b) ∙ places_xor g n (place g a) (place g b)

pub place_double : (g v : ℕ) → place g (v * 2) ≡ v
place_double g v =
    ap₂ (λ (x y : ℕ). x ⊕ pick (is_one y) g) (mul-div_cancel v two_pos) (mul-mod_left v 2) ∙ xor_zero_r v

pub places_zero : (g n : ℕ) → places g n 0 ≡ 0
places_zero g zero = refl
places_zero g (suc n) = places_zero g n

pub places_shift : (g n v : ℕ) → places g n (v * 2 ^ n) ≡ v
places_shift g zero v = mul-one v
places_shift g (suc n) v =
    ap (λ (x : ℕ). places g n (place g x)) (ap (λ (x : ℕ). v * x) (pow-suc 2 n) ∙ sym (mul_assoc v (2 ^ n) 2))
    ∙ ap (places g n) (place_double g (v * 2 ^ n)) ∙ places_shift g n v

-- the n low bits by themselves: what a table holds
pub places_split : (g n s : ℕ) → places g n s ≡ (s / 2 ^ n) ⊕ places g n (s % 2 ^ n)
places_split g n s =
    ap (places g n) (sym (split s n) ∙ sym (xor_shifted (s / 2 ^ n) n (s % 2 ^ n) (mod-lt s (pow_pos n))))
    ∙ places_xor g n (s / 2 ^ n * 2 ^ n) (s % 2 ^ n)
    ∙ ap (λ (x : ℕ). x ⊕ places g n (s % 2 ^ n)) (places_shift g n (s / 2 ^ n))

pub places_add : (g m n s : ℕ) → places g (m + n) s ≡ places g n (places g m s)
places_add g zero n s = ap (λ (x : ℕ). places g x s) (zero-add n)
places_add g (suc m) n s = ap (λ (x : ℕ). places g x s) (suc-add m n) ∙ places_add g m n (place g s)

-- k bits more: the register moves k places on, and they come in at its lowest powers; the bits n after them wait above it
pub places_take : (g k w r n b : ℕ) → b < 2 ^ k
    → places g k (r ⊕ ((n * 2 ^ k + b) * 2 ^ (k + w))) ≡ (places g k r ⊕ (b * 2 ^ w)) ⊕ (n * 2 ^ (k + w))
places_take g k w r n b h =
    ap (λ (x : ℕ). places g k (r ⊕ x)) spread
    ∙ places_xor g k r ((b * 2 ^ w * 2 ^ k) ⊕ (n * 2 ^ (k + w) * 2 ^ k))
    ∙ ap (λ (x : ℕ). places g k r ⊕ x)
    (places_xor g k (b * 2 ^ w * 2 ^ k) (n * 2 ^ (k + w) * 2 ^ k)
    ∙ ap₂ bit_xor (places_shift g k (b * 2 ^ w)) (places_shift g k (n * 2 ^ (k + w))))
    ∙ sym (xor_assoc (places g k r) (b * 2 ^ w) (n * 2 ^ (k + w)))
  where
    spread : (n * 2 ^ k + b) * 2 ^ (k + w) ≡ (b * 2 ^ w * 2 ^ k) ⊕ (n * 2 ^ (k + w) * 2 ^ k)
    spread =
        ap (λ (x : ℕ). x * 2 ^ (k + w)) (sym (xor_shifted n k b h)) ∙ xor_shl (n * 2 ^ k) b (k + w)
        ∙ ap₂ bit_xor (mul_right_comm n (2 ^ k) (2 ^ (k + w)))
        (ap (λ (x : ℕ). b * x) (pow-add 2 k w ∙ mul_comm (2 ^ k) (2 ^ w)) ∙ sym (mul_assoc b (2 ^ w) (2 ^ k)))
        ∙ xor_comm (n * 2 ^ (k + w) * 2 ^ k) (b * 2 ^ w * 2 ^ k)

-- a register stays a register
pick_lt : (k : ℕ) (b : Bool) (g : ℕ) → g < 2 ^ k → pick b g < 2 ^ k
pick_lt k true g h = h
pick_lt k false g h = pow_pos k

pub place_lt : (k g s : ℕ) → g < 2 ^ k → s < 2 ^ k → place g s < 2 ^ k
place_lt k g s hg hs = xor_lt k (s / 2) (pick (odd s) g) (lt_of_le_of_lt (shr_le s 1) hs) (pick_lt k (odd s) g hg)
