-- Laws of the buffers: zeros after the kept bytes make what is lent, and what a call leaves is the kept bytes again.
use mathlib.Core.Bool.{Bool, true, false, cond}
use mathlib.Core.List.{List, [], ◌∷◌, ◌++◌, append-nil}
use mathlib.Core.Path.{◌≡◌, refl, sym, ap, ap₂, subst, ◌∙◌}
use Prim.Native.Nat.{ℕ, zero, suc, ◌+◌, ◌-◌, ◌≤◌, ◌<◌}
use native.Mathlib.Omega.{arith}
use borrow.Author.Tests.{ltb-true, ltb-false, le-leb, lt-leb, ne_eqb}
use borrow.Rule.Slice.PartMut.{put_mid, mid_len, Post-is}
use lib.Dec.{ltb}
use lib.ListN.{length, take, drop, length-append, length-take, length-drop, replicate, length-replicate, take-append-drop, drop_of_length-le, replicate-append-replicate}
use lib.Seq.{length-take-le, length_front, take_all, take_at, drop_at, drop-drop, take-add, take-append-le, take-append-add, drop-append-add}
use native.Mathlib.Nat.{sub-zero}
use Rattle.text.specs.Text.{written}
use Rattle.text.proofs.Laws.{written_none, length_written}
use Rattle.drive_call.specs.Sides.{Clean, repeated, lent_bytes, kept_after, fill_fits, fills_store}

-- ---- bytes alike

pub length_repeated : (n b : ℕ) → length (repeated n b) ≡ n
unfolding repeated
length_repeated n b = length-replicate n b

repeated_add : (n m b : ℕ) → repeated n b ++ repeated m b ≡ repeated (n + m) b
unfolding repeated
repeated_add n m b = replicate-append-replicate n m b

-- ---- what is lent

pub length_lent : (n : ℕ) (kept : List ℕ) → length (lent_bytes n kept) ≡ n
unfolding lent_bytes
length_lent n kept = simp (length-append, length-take, length_repeated) (omega arith)

-- the kept bytes, where all are lent, and zeros after them
lent_whole : (n : ℕ) (kept : List ℕ) → length kept ≤ n → kept ++ repeated (n - length kept) 0 ≡ lent_bytes n kept
unfolding lent_bytes
lent_whole n kept h = ap (λ (x : List ℕ). x ++ repeated (n - length kept) 0) (sym (take_all n kept h))

lent_none : (n : ℕ) → lent_bytes n [] ≡ repeated n 0
lent_none n = sym (lent_whole n [] (omega arith)) ∙ ap (λ (i : ℕ). repeated i 0) (sub-zero n)

take_repeated : (n m b : ℕ) → n ≤ m → take n (repeated m b) ≡ repeated n b
unfolding repeated
take_repeated zero m b h = refl
take_repeated (suc n) zero b h = absurd (omega arith)
take_repeated (suc n) (suc m) b h = ap (λ (l : List ℕ). b ∷ l) (take_repeated n m b (omega arith))

drop_repeated : (n m b : ℕ) → drop n (repeated m b) ≡ repeated (m - n) b
unfolding repeated
drop_repeated zero m b = ap (λ (i : ℕ). replicate i b) (sym (sub-zero m))
drop_repeated (suc n) zero b = ap (λ (i : ℕ). replicate i b) {x = 0} {y = 0 - suc n} (omega arith)
drop_repeated (suc n) (suc m) b = drop_repeated n m b ∙ ap (λ (i : ℕ). replicate i b) {x = m - n} {y = suc m - suc n} (omega arith)

lent_zero : (kept : List ℕ) → lent_bytes 0 kept ≡ []
unfolding lent_bytes repeated
lent_zero kept = ap (λ (i : ℕ). replicate i 0) {x = 0 - length kept} {y = 0} (omega arith)

lent_more : (n x : ℕ) (kept : List ℕ) → lent_bytes (suc n) (x ∷ kept) ≡ x ∷ lent_bytes n kept
unfolding lent_bytes
lent_more n x kept = ap (λ (i : ℕ). x ∷ (take n kept ++ repeated i 0)) {x = suc n - suc (length kept)} {y = n - length kept} (omega arith)

-- fewer bytes lent are the first of more
take_lent : (n m : ℕ) (kept : List ℕ) → n ≤ m → take n (lent_bytes m kept) ≡ lent_bytes n kept
take_lent n m [] h = ap (take n) (lent_none m) ∙ take_repeated n m 0 h ∙ sym (lent_none n)
take_lent zero m (x ∷ kept) h = sym (lent_zero (x ∷ kept))
take_lent (suc n) zero (x ∷ kept) h = absurd (omega arith)
take_lent (suc n) (suc m) (x ∷ kept) h =
    ap (take (suc n)) (lent_more m x kept) ∙ ap (λ (l : List ℕ). x ∷ l) (take_lent n m kept (omega arith)) ∙ sym (lent_more n x kept)

-- ---- clean buffers

pub clean_at : (xs : List ℕ) (i j : ℕ) → i ≡ j → Clean i xs → Clean j xs
clean_at xs i j e z = subst (λ (k : ℕ). Clean k xs) e z

-- more bytes are kept
pub clean_past : (xs : List ℕ) (i j : ℕ) → i ≤ j → Clean i xs → Clean j xs
clean_past xs i j h z =
    ap (λ (k : ℕ). drop k xs) {x = j} {y = i + (j - i)} (omega arith)
    ∙ sym (drop-drop (j - i) i xs)
    ∙ ap (drop (j - i)) z
    ∙ drop_repeated (j - i) (length xs - i) 0
    ∙ ap (λ (k : ℕ). repeated k 0) (omega arith)

-- a clean buffer is what is lent of the kept bytes
clean_is : (xs : List ℕ) (kept : ℕ) → kept ≤ length xs → Clean kept xs → xs ≡ lent_bytes (length xs) (take kept xs)
clean_is xs kept h z =
    let a = length-take-le kept xs h in
    sym (take-append-drop kept xs)
    ∙ ap (λ (x : List ℕ). take kept xs ++ x) (z ∙ ap (λ (i : ℕ). repeated (length xs - i) 0) (sym a))
    ∙ lent_whole (length xs) (take kept xs) (omega arith)

-- and the other way round
pub lent_clean : (xs kept : List ℕ) (n m : ℕ) → xs ≡ lent_bytes n kept → length kept ≡ m → m ≤ n → Clean m xs × (take m xs ≡ kept) × (length xs ≡ n)
lent_clean xs kept n m e l h =
    let same : xs ≡ kept ++ repeated (n - length kept) 0 = e ∙ sym (lent_whole n kept (omega arith)) in
    let size : length xs ≡ n = ap length e ∙ length_lent n kept in (
      ap (drop m) same ∙ drop_at kept (repeated (n - length kept) 0) m l ∙ ap₂ (λ (i j : ℕ). repeated (i - j) 0) (sym size) l,
      ap (take m) same ∙ take_at kept (repeated (n - length kept) 0) m l,
      size,
    )

-- all zeros
pub zeros_clean : (xs : List ℕ) (n m : ℕ) → xs ≡ repeated n 0 → m ≤ n → Clean m xs × (take m xs ≡ repeated m 0) × (length xs ≡ n)
zeros_clean xs n m e h =
    let size : length xs ≡ n = ap length e ∙ length_repeated n 0 in
    (ap (drop m) e ∙ drop_repeated m n 0 ∙ ap (λ (i : ℕ). repeated (i - m) 0) (sym size), ap (take m) e ∙ take_repeated m n 0 h, size)

-- zeros from one place up to another, where what lies past them is 0
pub cleared_some : (xs ys : List ℕ) (from to : ℕ) → from < to → to ≤ length xs → Clean (from + (to - from)) xs
    → ys ≡ repeated (length (take (to - from) (drop from xs))) 0 → put_mid from (to - from) xs ys ≡ lent_bytes (length xs) (take from xs)
cleared_some xs ys from to h k z e =
    let a = length-take-le from xs (omega arith) in
    let past = clean_at xs (from + (to - from)) to (omega arith) z in
    let zeros : ys ++ drop (to - from) (drop from xs) ≡ repeated (length xs - length (take from xs)) 0 =
    ap₂ (λ (x y : List ℕ). x ++ y) (e ∙ ap (λ (i : ℕ). repeated i 0) (mid_len from to xs k)) (Post-is from to xs (omega arith) ∙ past)
    ∙ repeated_add (to - from) (length xs - to) 0
    ∙ ap (λ (i : ℕ). repeated i 0) (omega arith) in
    ap (λ (x : List ℕ). take from xs ++ x) zeros ∙ lent_whole (length xs) (take from xs) (omega arith)

-- no byte is cleared
pub cleared_none : (xs : List ℕ) (from to : ℕ) → to ≤ from → from ≤ length xs → Clean (from + (to - from)) xs → xs ≡ lent_bytes (length xs) (take from xs)
cleared_none xs from to h k z = clean_is xs from k (clean_at xs (from + (to - from)) from (omega arith) z)

-- every byte is cleared
pub cleared_all : {ys : List ℕ} {m n : ℕ} → ys ≡ lent_bytes m [] → m ≡ n → ys ≡ repeated n 0
cleared_all {ys} {m} {n} e f = e ∙ lent_none m ∙ ap (λ (i : ℕ). repeated i 0) f

-- ---- what is kept

back : (xs after : List ℕ) (kept n : ℕ) → kept ≤ length xs → n ≤ length xs → length after ≡ n
    → take kept (after ++ drop n xs) ≡ kept_after after (take kept xs)
unfolding kept_after
back xs after kept n h k e = by (ltb kept n) refl
  where
    by : (b : Bool) → ltb kept n ≡ b → take kept (after ++ drop n xs) ≡ take (length (take kept xs)) after ++ drop (length after) (take kept xs)
    by true t =
        let l = ltb-true kept n t in
        let a = length-take-le kept xs h in
        take-append-le kept after (drop n xs) (omega arith)
        ∙ sym (append-nil (take kept after))
        ∙ ap₂ (λ (i : ℕ) (x : List ℕ). take i after ++ x) (sym a) (sym (drop_of_length-le (take kept xs) {i = length after} (omega arith)))
    by false t =
        let l = ltb-false kept n t in
        let a = length-take-le kept xs h in
        let s : kept ≡ length after + (kept - n) = omega arith in
        let p : kept ≡ n + (kept - n) = omega arith in
        let rest = take (kept - n) (drop n xs) in
        let dropped : drop (length after) (take kept xs) ≡ rest =
        ap₂ (λ (i j : ℕ). drop i (take j xs)) e p ∙ ap (drop n) (take-add n (kept - n) xs) ∙ drop_at (take n xs) rest n (length-take-le n xs k) in
        ap (λ (i : ℕ). take i (after ++ drop n xs)) s
        ∙ take-append-add after (drop n xs) (kept - n)
        ∙ ap₂ (λ (x y : List ℕ). x ++ y) (sym (take_all (length (take kept xs)) after (omega arith))) (sym dropped)

pub length_kept_after : (after kept : List ℕ) → length (kept_after after kept) ≡ length kept
unfolding kept_after
length_kept_after after kept = simp (length-append, length-take, length-drop) (omega arith)

-- ---- a call with a part of a buffer

module _ (xs : List ℕ) (kept n : ℕ) (h : kept ≤ length xs) (k : n ≤ length xs) (z : Clean kept xs) where
  pub lent_part : take n xs ≡ lent_bytes n (take kept xs)
  lent_part = ap (take n) (clean_is xs kept h z) ∙ take_lent n (length xs) (take kept xs) k

  -- what the call left: past what it may have written, and past the kept bytes, the buffer is clean still
  module _ (after : List ℕ) (l : length after ≡ length (take n xs)) where
    size : length after ≡ n
    size = l ∙ length-take-le n xs k

    whole : length (after ++ drop n xs) ≡ length xs
    whole = length_front xs after n l

    pub left_clean : (kept ≤ length (after ++ drop n xs)) × (n ≤ length (after ++ drop n xs)) × Clean (kept + (n - kept)) (after ++ drop n xs)
    left_clean =
        let j = kept + (n - kept) in (
          omega (arith, whole),
          omega (arith, whole),
          ap (λ (i : ℕ). drop i (after ++ drop n xs)) {x = j} {y = length after + (j - n)} (omega (arith, size))
              ∙ drop-append-add after (drop n xs) (j - n)
              ∙ drop-drop (j - n) n xs
              ∙ ap (λ (i : ℕ). drop i xs) {x = n + (j - n)} {y = j} (omega arith)
              ∙ clean_past xs kept j (omega arith) z
              ∙ ap (λ (i : ℕ). repeated (i - j) 0) (sym whole),
        )

    -- and, cleared again, it has what is kept of that
    pub left_part : (after' exit : List ℕ) → after ≡ after' → exit ≡ lent_bytes (length (after ++ drop n xs)) (take kept (after ++ drop n xs))
        → exit ≡ lent_bytes (length xs) (kept_after after' (take kept xs))
    left_part after' exit e f =
        f ∙ ap₂ lent_bytes whole (back xs after kept n h k size ∙ ap (λ (x : List ℕ). kept_after x (take kept xs)) e)

-- ---- fill

-- what fill answers and leaves
pub record Filled (xs : List ℕ) (kept offset : ℕ) (bytes : List ℕ) (fits : Bool) (after : List ℕ) : Type 0 where
  pub value : fits ≡ fill_fits kept offset (length bytes)
  pub left : after ≡ lent_bytes (length xs) (fills_store kept (take kept xs) offset bytes)

module _ {xs : List ℕ} {kept : ℕ} (k : kept ≤ length xs) (z : Clean kept xs) (offset : ℕ) (bytes : List ℕ) where
  filled_as : {fits : Bool} {after : List ℕ} → fits ≡ fill_fits kept offset (length bytes)
      → after ≡ lent_bytes (length xs) (cond fits (written (take kept xs) offset bytes) (take kept xs)) → Filled xs kept offset bytes fits after
  filled_as {fits} {after} e f =
      record { value = e; left = f ∙ ap (λ (b : Bool). lent_bytes (length xs) (cond b (written (take kept xs) offset bytes) (take kept xs))) e }

  pub fill_not : (length bytes ≡ 0 → ⊥) → kept < offset + length bytes → Filled xs kept offset bytes false xs
  unfolding fill_fits
  fill_not n h = filled_as (sym (simp (ne_eqb (length bytes) 0 n, lt-leb (offset + length bytes) kept h))) (clean_is xs kept k z)

  pub fill_does : {after : List ℕ} → (length bytes ≡ 0 → ⊥) → offset + length bytes ≤ kept → after ≡ written (take kept xs) offset bytes
      → Filled xs kept offset bytes true (after ++ drop kept xs)
  unfolding fill_fits
  fill_does n h e =
      let new = written (take kept xs) offset bytes in
      let l : length new ≡ kept = length_written (take kept xs) offset bytes ∙ length-take-le kept xs k in
      filled_as (sym (simp (ne_eqb (length bytes) 0 n, le-leb (offset + length bytes) kept h)))
      (ap (λ (x : List ℕ). x ++ drop kept xs) e
      ∙ ap (λ (x : List ℕ). new ++ x) (z ∙ ap (λ (i : ℕ). repeated (length xs - i) 0) (sym l))
      ∙ lent_whole (length xs) new (omega arith))

pub fill_none : {xs : List ℕ} {kept : ℕ} → kept ≤ length xs → Clean kept xs → (offset : ℕ) (bytes : List ℕ) → length bytes ≡ 0 → Filled xs kept offset bytes true xs
unfolding fill_fits
fill_none {xs} {kept} k z offset [] h =
    record { value = refl; left = clean_is xs kept k z ∙ ap (lent_bytes (length xs)) (sym (written_none (take kept xs) offset)) }
fill_none k z offset (x ∷ bytes) h = absurd (omega arith)
