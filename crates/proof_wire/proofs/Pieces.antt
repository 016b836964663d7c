-- Lists of bytes in pieces of 64: a list of whole flits and the bytes that they make in a row are the same thing.
use mathlib.Core.Path.{◌≡◌, refl, sym, ap, ap₂, ◌∙◌}
use mathlib.Core.List.{List, [], ◌∷◌, ◌++◌, append_assoc, append-nil}
use Prim.Native.Nat.{ℕ, zero, suc, ◌+◌, ◌*◌, ◌<◌, ◌≤◌}
use native.Mathlib.Omega.{arith}
use lib.ListN.{length, take, drop, get_or, length-append, length-drop}
use lib.Seq.{length-take-le, take-append-le, drop-append-le, drop-append-add, take_at, drop-drop, take-add}
use Rattle.crc.specs.Unit.{AllBytes}
use Rattle.flit_read.proofs.Laws.{append_bytes, take_bytes, drop_bytes}
use Rattle.end_state.specs.Ring.{flit_at, put_at}

-- ---- a flit at a place

module _ (s : List ℕ) (p : ℕ) (x : List ℕ) (fits : p * 64 + 64 ≤ length s) (size : length x ≡ 64) where
  front : length (take (p * 64) s) ≡ p * 64
  front = length-take-le (p * 64) s (omega arith)

  whole_front : length (take (p * 64) s ++ x) ≡ p * 64 + 64
  whole_front = length-append (take (p * 64) s) x ∙ ap₂ (λ (m n : ℕ). m + n) front size

  in_front : put_at s p x ≡ (take (p * 64) s ++ x) ++ drop (p * 64 + 64) s
  unfolding put_at
  in_front = sym (append_assoc (take (p * 64) s) x (drop (p * 64 + 64) s))

  -- the places up to this one
  pub put_front : take (suc p * 64) (put_at s p x) ≡ take (p * 64) s ++ x
  put_front =
      let e : suc p * 64 ≡ p * 64 + 64 = omega arith in
      ap₂ (λ (n : ℕ) (l : List ℕ). take n l) e in_front
      ∙ take_at (take (p * 64) s ++ x) (drop (p * 64 + 64) s) (p * 64 + 64) whole_front

-- what is put and what was there are bytes
pub put_bytes : (s : List ℕ) (p : ℕ) (x : List ℕ) → AllBytes s → AllBytes x → AllBytes (put_at s p x)
unfolding put_at
put_bytes s p x hs hx =
    append_bytes (take (p * 64) s) (x ++ drop (p * 64 + 64) s) (take_bytes (p * 64) s hs)
    (append_bytes x (drop (p * 64 + 64) s) hx (drop_bytes (p * 64 + 64) s hs))

-- ---- whole flits in a row

abbrev pub Flits : List (List ℕ) → Type 0
Flits [] = Unit {0}
Flits (x ∷ xs) = (length x ≡ 64) × Flits xs

abbrev pub joined : List (List ℕ) → List ℕ
joined [] = []
joined (x ∷ xs) = x ++ joined xs

abbrev pub cut : ℕ → List ℕ → List (List ℕ)
cut zero bs = []
cut (suc n) bs = take 64 bs ∷ cut n (drop 64 bs)

pub length_cut : (n : ℕ) (bs : List ℕ) → length (cut n bs) ≡ n
length_cut zero bs = refl
length_cut (suc n) bs = ap suc (length_cut n (drop 64 bs))

pub flits_cut : (n : ℕ) (bs : List ℕ) → n * 64 ≤ length bs → Flits (cut n bs)
flits_cut zero bs h = tt
flits_cut (suc n) bs h = (length-take-le 64 bs (omega arith), flits_cut n (drop 64 bs) (rw (length-drop 64 bs) (omega arith)))

pub joined_cut : (n : ℕ) (bs : List ℕ) → n * 64 ≤ length bs → joined (cut n bs) ≡ take (n * 64) bs
joined_cut zero bs h = refl
joined_cut (suc n) bs h =
    let e : suc n * 64 ≡ 64 + n * 64 = omega arith in
    ap (λ (l : List ℕ). take 64 bs ++ l) (joined_cut n (drop 64 bs) (rw (length-drop 64 bs) (omega arith)))
    ∙ sym (take-add 64 (n * 64) bs) ∙ ap (λ (k : ℕ). take k bs) (sym e)

flit_tail : (bs : List ℕ) (i : ℕ) → flit_at (drop 64 bs) i ≡ flit_at bs (suc i)
unfolding flit_at
flit_tail bs i = let e : 64 + i * 64 ≡ suc i * 64 = omega arith in ap (take 64) (drop-drop (i * 64) 64 bs ∙ ap (λ (k : ℕ). drop k bs) e)

pub get_or_cut : (n : ℕ) (bs : List ℕ) (i : ℕ) → i < n → get_or (cut n bs) i [] ≡ flit_at bs i
unfolding flit_at
get_or_cut zero bs i h = absurd (omega arith)
get_or_cut (suc n) bs zero h = refl
get_or_cut (suc n) bs (suc i) h = get_or_cut n (drop 64 bs) i (omega arith) ∙ flit_tail bs i

pub length_joined : (xs : List (List ℕ)) → Flits xs → length (joined xs) ≡ length xs * 64
length_joined [] h = refl
length_joined (x ∷ xs) h = length-append x (joined xs) ∙ omega (arith, h.0, length_joined xs h.1)

pub joined_append : (xs ys : List (List ℕ)) → joined (xs ++ ys) ≡ joined xs ++ joined ys
joined_append [] ys = refl
joined_append (x ∷ xs) ys = ap (λ (l : List ℕ). x ++ l) (joined_append xs ys) ∙ sym (append_assoc x (joined xs) (joined ys))

pub joined_snoc : (xs : List (List ℕ)) (y : List ℕ) → joined (xs ++ (y ∷ [])) ≡ joined xs ++ y
joined_snoc xs y = joined_append xs (y ∷ []) ∙ ap (λ (l : List ℕ). joined xs ++ l) (append-nil y)

pub flits_snoc : (xs : List (List ℕ)) (y : List ℕ) → Flits xs → length y ≡ 64 → Flits (xs ++ (y ∷ []))
flits_snoc [] y h k = (k, tt)
flits_snoc (x ∷ xs) y h k = (h.0, flits_snoc xs y h.1 k)

-- a flit at a place of two lists one after the other, the first of n flits
pub flit_append_left : (xs ys : List ℕ) (i : ℕ) → i * 64 + 64 ≤ length xs → flit_at (xs ++ ys) i ≡ flit_at xs i
unfolding flit_at
flit_append_left xs ys i h =
    ap (take 64) (drop-append-le (i * 64) xs ys (omega arith))
    ∙ take-append-le 64 (drop (i * 64) xs) ys (rw (length-drop (i * 64) xs) (omega arith))

pub flit_append_right : (xs ys : List ℕ) (n i : ℕ) → length xs ≡ n * 64 → flit_at (xs ++ ys) (n + i) ≡ flit_at ys i
unfolding flit_at
flit_append_right xs ys n i h =
    let e : (n + i) * 64 ≡ length xs + i * 64 = omega arith in
    ap (take 64) (ap (λ (k : ℕ). drop k (xs ++ ys)) e ∙ drop-append-add xs ys (i * 64))

pub flit_alone : (x : List ℕ) → length x ≡ 64 → flit_at x 0 ≡ x
unfolding flit_at
flit_alone x h = sym (ap (take 64) (append-nil x)) ∙ take_at x [] 64 h
