-- Laws of texts in a buffer, of decimal numbers and of forms: a text written after a text is the two joined, writing keeps the length,
-- twenty digits are enough for any number under 2 ^ 64, and a form is written a byte or a number at a time.
use mathlib.Core.Bool.{Bool, true, false, cond}
use mathlib.Core.List.{List, [], ◌∷◌, ◌++◌, append-nil, append_assoc}
use mathlib.Core.Path.{◌≡◌, refl, ap, sym, subst, ◌∙◌}
use Prim.Native.Nat.{ℕ, zero, suc, ◌+◌, ◌*◌, ◌/◌, ◌%◌, ◌^◌, ◌≤◌, ◌<◌}
use native.Mathlib.Nat.{suc-add, add-suc, add-zero}
use native.Mathlib.Numerals.{add-one}
use native.Mathlib.Omega.{arith}
use lib.Dec.{ltb, eqb}
use lib.ListN.{length, set, get_or, take, drop, length-append, length-set}
use lib.Seq.{sets, length-sets, sets-eq, take_at, drop-cons}
use borrow.Author.Tests.{lt-ltb, le-ltb, eq-eqb, ne_eqb}
use borrow.Rule.Slice.PartMut.{put_mid}
use Rattle.std.specs.Fmt.{decimal as std_decimal}
use Rattle.std.proofs.lemmas.Bool.{cond-true, cond-false}
use Rattle.std.proofs.lemmas.List.{drop-drop}
use Rattle.std.proofs.lemmas.Fmt.{AppendsLastDigit, decimal_from_appends, length-decimal-le}
use Rattle.text.specs.declared.Writer.{Writer}
use Rattle.text.specs.Text.{digit, digits, decimal, hash, filled, written, Puts, Appends}

-- ---- a buffer

sets_append : (a b : List ℕ) (l : List ℕ) (i : ℕ) → sets (sets l i a) (i + length a) b ≡ sets l i (a ++ b)
sets_append [] b l i = ap (λ (k : ℕ). sets l k b) (add-zero i)
sets_append (x ∷ a) b l i =
    ap (λ (k : ℕ). sets (sets (set l i x) (suc i) a) k b) (add-suc i (length a) ∙ sym (suc-add i (length a)))
    ∙ sets_append a b (set l i x) (suc i)

pub written_more : (out : List ℕ) (at : ℕ) (a b : List ℕ) → written (written out at a) (at + length a) b ≡ written out at (a ++ b)
unfolding written
written_more out at a b = sets_append a b out at

pub length_written : (out : List ℕ) (at : ℕ) (text : List ℕ) → length (written out at text) ≡ length out
unfolding written
length_written out at text = length-sets out at text

pub written_none : (out : List ℕ) (at : ℕ) → written out at [] ≡ out
unfolding written
written_none out at = refl

pub written_one : (out : List ℕ) (at b : ℕ) → written out at (b ∷ []) ≡ set out at b
unfolding written
written_one out at b = refl

-- a text that is copied to its place, which has k bytes
pub written_copied : (out text : List ℕ) (at k : ℕ) → k ≡ length text → at + length text ≤ length out → put_mid at k out text ≡ written out at text
unfolding written
written_copied out text at k e h = rw e (ap (λ (l : List ℕ). take at out ++ (text ++ l)) (drop-drop (length text) at out) ∙ sym (append_assoc (take at out) text (drop (at + length text) out)) ∙ sym (sets-eq text out at h))

-- at the start it stands before the rest
pub written_start : (out text : List ℕ) → length text ≤ length out → written out 0 text ≡ text ++ drop (length text) out
unfolding written
written_start out text h =
    let none : 0 + length text ≡ length text = omega arith in
    sets-eq text out 0 (omega arith) ∙ ap (λ (k : ℕ). text ++ drop k out) none

-- ---- a text put into a buffer

pub puts_none : (out : List ℕ) (at : ℕ) → Puts out at [] at out
puts_none out at = record { place = sym (add-zero at); bytes = sym (written_none out at); size = refl }

pub puts_byte : (out : List ℕ) (at b : ℕ) → Puts out at (b ∷ []) (at + 1) (set out at b)
puts_byte out at b = record { place = refl; bytes = sym (written_one out at b); size = length-set out at b }

pub puts_copied : {next : ℕ} (out text : List ℕ) (at k : ℕ) → k ≡ length text → next ≡ at + length text → next ≤ length out
    → Puts out at text next (put_mid at k out text)
puts_copied out text at k e n h =
    let w = written_copied out text at k e (omega arith) in
    record { place = n; bytes = w; size = ap length w ∙ length_written out at text }

-- a text put after a text
pub puts_more : {out middle after a b : List ℕ} {at next last : ℕ} → Puts out at a next middle → Puts middle next b last after
    → Puts out at (a ++ b) last after
puts_more {out} {middle} {after} {a} {b} {at} {next} {last} p q =
    record {
      place = rw length-append (omega arith);
      bytes = q.bytes ∙ rw (p.place, p.bytes) (written_more out at a b);
      size = q.size ∙ p.size;
    }

-- the same text, said otherwise
pub puts_as : {out text other after : List ℕ} {at next : ℕ} → text ≡ other → Puts out at text next after → Puts out at other next after
puts_as {out} {text} {other} {after} {at} {next} e p = subst (λ (t : List ℕ). Puts out at t next after) e p

-- the text that was put at the start of a buffer with room for it
pub puts_start : {out text after : List ℕ} {next : ℕ} → Puts out 0 text next after → next ≤ length out → take next after ≡ text
unfolding written
puts_start {out} {text} {after} {next} p h =
    let n : next ≡ length text = omega (arith, p.place) in
    rw (p.bytes, sets-eq text out 0 (omega arith)) (take_at text (drop (0 + length text) out) next (sym n))

-- ---- a text put by a writer

pub appends_none : (w : Writer) → Appends w [] w
appends_none w = record { puts = puts_none w.out.now w.at; buffer = refl }

pub appends_more : {before middle after : Writer} {a b : List ℕ} → Appends before a middle → Appends middle b after → Appends before (a ++ b) after
appends_more p q = record { puts = puts_more p.puts q.puts; buffer = q.buffer ∙ p.buffer }

pub appends_as : {before after : Writer} {text other : List ℕ} → text ≡ other → Appends before text after → Appends before other after
appends_as e p = record { puts = puts_as e p.puts; buffer = p.buffer }

-- ---- decimal numbers

digit_by_digit : AppendsLastDigit digits
unfolding digits
digit_by_digit =
    record { one = λ k n h. cond-true (ltb n 10) _ _ (lt-ltb n 10 h); more = λ k n h. cond-false (ltb n 10) _ _ (le-ltb n 10 h) }

-- as the library prints them
pub decimal_is : (n : ℕ) → n < 2 ^ 64 → decimal n ≡ std_decimal n
decimal_is n h = decimal_from_appends digits digit_by_digit 20 n h (length-decimal-le 20 n (omega arith) (omega arith) h)

pub length_digits : (k n : ℕ) → length (digits k n) ≤ k
unfolding digits
length_digits zero n = omega arith
length_digits (suc k) n = shorter (ltb n 10) (length_digits k (n / 10))
  where
    shorter : (b : Bool) → length (digits k (n / 10)) ≤ k
        → length (cond b (digit n ∷ []) (digits k (n / 10) ++ (digit (n % 10) ∷ []))) ≤ suc k
    shorter true h = omega arith
    shorter false h = simp length-append (omega arith)

pub length_decimal : (n : ℕ) → length (decimal n) ≤ 20
length_decimal n = length_digits 20 n

-- a key and a number take at most the key's bytes and 20
pub field_end : {out after : List ℕ} {at next : ℕ} (key : List ℕ) (n : ℕ) → Puts out at (key ++ decimal n) next after
    → next ≤ at + length key + 20
field_end key n p = omega (arith, length_decimal n, simp length-append at p.place)

-- ---- a form with its numbers

filled_end : (numbers : List ℕ) → filled [] numbers ≡ []
unfolding filled
filled_end [] = refl
filled_end (n ∷ numbers) = refl

filled_number : (b n : ℕ) (form numbers : List ℕ) → eqb b hash ≡ true → filled (b ∷ form) (n ∷ numbers) ≡ decimal n ++ filled form numbers
unfolding filled
filled_number b n form numbers h = cond-true (eqb b hash) _ _ h

-- a byte stands for itself: it is no hash, or no number is left
filled_byte : (b : ℕ) (form numbers : List ℕ) → eqb b hash ≡ false → filled (b ∷ form) numbers ≡ b ∷ filled form numbers
unfolding filled
filled_byte b form [] h = refl
filled_byte b form (n ∷ numbers) h = cond-false (eqb b hash) _ _ h

filled_none : (b : ℕ) (form numbers : List ℕ) → length numbers ≡ 0 → filled (b ∷ form) numbers ≡ b ∷ filled form numbers
unfolding filled
filled_none b form [] h = refl
filled_none b form (n ∷ numbers) h = absurd (omega arith)

pub filled_short : (form numbers : List ℕ) → length (filled form numbers) ≤ length form + 20 * length numbers
unfolding filled
filled_short form [] = omega arith
filled_short [] (n ∷ numbers) = omega arith
filled_short (b ∷ form) (n ∷ numbers) = shorter (eqb b hash) (filled_short form numbers) (filled_short form (n ∷ numbers))
  where
    shorter : (number : Bool) → length (filled form numbers) ≤ length form + 20 * length numbers
        → length (filled form (n ∷ numbers)) ≤ length form + 20 * suc (length numbers)
        → length (cond number (decimal n ++ filled form numbers) (b ∷ filled form (n ∷ numbers))) ≤ suc (length form) + 20 * suc (length numbers)
    shorter true h k = simp length-append (omega (arith, length_decimal n))
    shorter false h k = omega arith

pub form_end : {out after : List ℕ} {at next : ℕ} (form numbers : List ℕ) → Puts out at (filled form numbers) next after
    → next ≤ at + (length form + 20 * length numbers)
form_end form numbers p = omega (arith, p.place, filled_short form numbers)

-- part of a form is written: what of it is in the buffer, and what is still to come
pub record Filling (before : Writer) (form numbers : List ℕ) (after : Writer) (rest left : List ℕ) : Type 0 where
  pub text : List ℕ
  pub appends : Appends before text after
  pub whole : text ++ filled rest left ≡ filled form numbers

pub filling_none : (w : Writer) (form numbers : List ℕ) → Filling w form numbers w form numbers
filling_none w form numbers = record { text = []; appends = appends_none w; whole = refl }

filling_more : {before middle after : Writer} {form numbers rest left rest' left' more : List ℕ} → Filling before form numbers middle rest left
    → filled rest left ≡ more ++ filled rest' left' → Appends middle more after → Filling before form numbers after rest' left'
filling_more {form = form} {numbers = numbers} {rest' = rest'} {left' = left'} {more = more} f e p =
    record {
      text = f.text ++ more;
      appends = appends_more f.appends p;
      whole = append_assoc f.text more (filled rest' left') ∙ ap (λ (l : List ℕ). f.text ++ l) (sym e) ∙ f.whole;
    }

-- the next byte is a hash, and a number is left
pub filling_number : {before middle after : Writer} {form numbers left rest : List ℕ} {n : ℕ} (bytes : List ℕ) (i : ℕ)
    → Filling before form numbers middle (drop i bytes) left → i < length bytes → get_or bytes i 0 ≡ hash → left ≡ n ∷ rest
    → Appends middle (decimal n) after → Filling before form numbers after (drop (i + 1) bytes) rest
filling_number {rest = rest} {n = n} bytes i f h e k p =
    filling_more f (rw (k, drop-cons bytes i 0 h, add-one) (filled_number _ n _ rest (eq-eqb _ hash e))) p

-- it is no hash, or no number is left
pub filling_byte : {before middle after : Writer} {form numbers left : List ℕ} (bytes : List ℕ) (i : ℕ)
    → Filling before form numbers middle (drop i bytes) left → i < length bytes → (get_or bytes i 0 ≡ hash → ⊥)
    → Appends middle (get_or bytes i 0 ∷ []) after → Filling before form numbers after (drop (i + 1) bytes) left
filling_byte {left = left} bytes i f h e p =
    filling_more f (rw (drop-cons bytes i 0 h, add-one) (filled_byte _ _ left (ne_eqb _ hash e))) p

pub filling_rest : {before middle after : Writer} {form numbers left : List ℕ} (bytes : List ℕ) (i : ℕ)
    → Filling before form numbers middle (drop i bytes) left → i < length bytes → length left ≡ 0
    → Appends middle (get_or bytes i 0 ∷ []) after → Filling before form numbers after (drop (i + 1) bytes) left
filling_rest {left = left} bytes i f h e p =
    filling_more f (rw (drop-cons bytes i 0 h, add-one) (filled_none _ _ left e)) p

-- there is room for a number where there is room for 20 bytes
pub room_decimal : (at room n : ℕ) → at + 20 ≤ room → at + length (decimal n) ≤ room
room_decimal at room n h = omega (arith, length_decimal n)

-- and what is left of it after the number
pub room_after : {before after : Writer} (n : ℕ) → Appends before (decimal n) after → (more : ℕ) → before.at + (20 + more) ≤ length before.out.now
    → after.at + more ≤ length after.out.now
room_after n p more h = omega (arith, p.puts, length_decimal n)

pub filling_all : {before after : Writer} {form numbers rest left : List ℕ} → Filling before form numbers after rest left → rest ≡ []
    → Appends before (filled form numbers) after
filling_all {left = left} f e =
    appends_as (sym (append-nil f.text) ∙ ap (λ (l : List ℕ). f.text ++ l) (sym (ap (λ (l : List ℕ). filled l left) e ∙ filled_end left)) ∙ f.whole) f.appends

-- ---- fields one after the other: from a form they come nested to the right, in a text to the left

abbrev pub in_turn : List (List ℕ × ℕ) → List ℕ → List ℕ
in_turn [] rest = rest
in_turn ((key, n) ∷ fields) rest = key ++ (decimal n ++ in_turn fields rest)

abbrev pub joined : List ℕ → List (List ℕ × ℕ) → List ℕ
joined first [] = first
joined first ((key, n) ∷ fields) = joined (first ++ (key ++ decimal n)) fields

pub fields_joined : (first : List ℕ) (fields : List (List ℕ × ℕ)) (rest : List ℕ) → first ++ in_turn fields rest ≡ joined first fields ++ rest
fields_joined first [] rest = refl
fields_joined first ((key, n) ∷ fields) rest =
    ap (λ (l : List ℕ). first ++ l) (sym (append_assoc key (decimal n) (in_turn fields rest)))
    ∙ sym (append_assoc first (key ++ decimal n) (in_turn fields rest))
    ∙ fields_joined (first ++ (key ++ decimal n)) fields rest
