-- How much of an input is taken: at most all of it, at least a byte, and as much as a loop takes that goes on while a line has room.
use mathlib.Core.Bool.{Bool, true, false}
use mathlib.Core.List.{List}
use mathlib.Core.Path.{◌≡◌, refl, ap, sym, subst, ◌∙◌}
use Prim.Native.Nat.{ℕ, zero, suc, ◌+◌, ◌-◌, ◌≤◌, ◌<◌}
use native.Mathlib.Nat.{add-suc, add-zero}
use native.Mathlib.Numerals.{add-one}
use native.Mathlib.Omega.{arith}
use borrow.Author.Tests.{le-leb, lt-leb, leb-true, leb-false}
use lib.Dec.{leb}
use lib.ListN.{length}
use Rattle.std.proofs.lemmas.Bool.{cond-true, cond-false}
use Rattle.drive_pair.specs.Pair.{State}
use Rattle.drive_session.specs.Drive.{session, taken}

-- ---- a try more, where a line has room and where it has none

taken_more : (s : State) (input : List ℕ) (room n : ℕ) → length (session s input (taken s input room n)).lines + 8192 ≤ room
    → taken s input room (suc n) ≡ suc (taken s input room n)
unfolding taken
taken_more s input room n h = cond-true _ _ _ (le-leb _ room h)

taken_full : (s : State) (input : List ℕ) (room n : ℕ) → room < length (session s input (taken s input room n)).lines + 8192
    → taken s input room (suc n) ≡ taken s input room n
unfolding taken
taken_full s input room n h = cond-false _ _ _ (lt-leb _ room h)

-- ---- in n tries at most n bytes are taken, and at least one where there is room for a line at first

taken_step : (s : State) (input : List ℕ) (room n : ℕ)
    → (taken s input room n ≤ taken s input room (suc n)) × (taken s input room (suc n) ≤ suc (taken s input room n))
taken_step s input room n = by (leb (length (session s input (taken s input room n)).lines + 8192) room) refl
  where
    by : (b : Bool) → leb (length (session s input (taken s input room n)).lines + 8192) room ≡ b
        → (taken s input room n ≤ taken s input room (suc n)) × (taken s input room (suc n) ≤ suc (taken s input room n))
    by true e = let m = taken_more s input room n (leb-true _ room e) in (omega arith, omega arith)
    by false e = let m = taken_full s input room n (leb-false _ room e) in (omega arith, omega arith)

pub none_taken : (s : State) (input : List ℕ) (room : ℕ) → taken s input room zero ≡ 0
unfolding taken
none_taken s input room = refl

taken_most : (s : State) (input : List ℕ) (room n : ℕ) → taken s input room n ≤ n
taken_most s input room zero = omega (arith, none_taken s input room)
taken_most s input room (suc n) = omega (arith, taken_most s input room n, (taken_step s input room n).1)

no_lines : (s : State) (input : List ℕ) (room : ℕ) → length (session s input (taken s input room zero)).lines ≡ 0
unfolding taken session
no_lines s input room = refl

pub taken_some : (s : State) (input : List ℕ) (room n : ℕ) → 8192 ≤ room → 0 < n → 0 < taken s input room n
taken_some s input room zero h k = absurd (omega arith)
taken_some s input room (suc zero) h k = omega (arith, taken_more s input room zero (omega (arith, no_lines s input room)))
taken_some s input room (suc (suc n)) h k = omega (arith, taken_some s input room (suc n) h (omega arith), (taken_step s input room (suc n)).0)

-- what is taken of all of an input is inside it
pub all_taken : (n : ℕ) (s : State) (input : List ℕ) (room : ℕ) → n ≡ taken s input room (length input) → n ≤ length input
all_taken n s input room e = omega (arith, taken_most s input room (length input))

-- ---- a loop that takes a byte a turn: one turn more, and its end

module _ (s : State) (input : List ℕ) (room n : ℕ) (e : n ≡ taken s input room n) where
  pub taken_next : length (session s input n).lines + 8192 ≤ room → n + 1 ≡ taken s input room (n + 1)
  taken_next h =
      let fits = subst (λ (k : ℕ). length (session s input k).lines + 8192 ≤ room) e h in
      add-one n ∙ ap suc e ∙ sym (taken_more s input room n fits) ∙ ap (taken s input room) (sym (add-one n))

  taken_stays : room < length (session s input n).lines + 8192 → (k : ℕ) → n ≡ taken s input room (n + k)
  taken_stays h zero = e ∙ ap (taken s input room) (sym (add-zero n))
  taken_stays h (suc k) =
      let same = taken_stays h k in
      let full = subst (λ (m : ℕ). room < length (session s input m).lines + 8192) same h in
      same ∙ sym (taken_full s input room (n + k) full) ∙ ap (taken s input room) (sym (add-suc n k))

  pub taken_end : room < length (session s input n).lines + 8192 → n ≤ length input → n ≡ taken s input room (length input)
  taken_end h l = taken_stays h (length input - n) ∙ ap (taken s input room) (omega arith)
