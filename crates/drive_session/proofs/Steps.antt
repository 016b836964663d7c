-- How a session begins, goes on and ends.
use mathlib.Core.List.{List, [], ◌++◌}
use mathlib.Core.Path.{◌≡◌, refl, ap, sym, ◌∙◌}
use Prim.Native.Nat.{ℕ, ◌+◌, ◌≤◌}
use native.Mathlib.Numerals.{add-one}
use borrow.Author.Tests.{eq-eqb, ne_eqb}
use lib.ListN.{length, take, get_or}
use lib.Seq.{length-take-le}
use Rattle.text.specs.Text.{Room}
use Rattle.text.specs.declared.Writer.{Writer}
use Rattle.text.proofs.Laws.{appends_none, appends_more, appends_as}
use Rattle.std.proofs.lemmas.Bool.{cond-true, cond-false}
use Rattle.drive_call.specs.Sides.{Kept}
use Rattle.drive_pair.specs.Pair.{State, PairStep, ended, byte, Goes}
use Rattle.drive_pair.proofs.Bytes.{goes_as}
use Rattle.drive_session.specs.Drive.{session, finished}

-- ---- the bytes of an input

-- nothing happens
goes_still : (s : State) (w : Writer) → Room w 0 → Goes (record { state = s; lines = [] }) s w w
goes_still s w h = record { state = refl; lines = appends_none w; inside = h }

pub goes_none : (s : State) (input : List ℕ) (w : Writer) → Room w 0 → Goes (session s input 0) s w w
unfolding session
goes_none s input w h = goes_still s w h

session_next : (s : State) (input : List ℕ) (n : ℕ)
    → record {
      state = (byte (session s input n).state (get_or input n 0)).state;
      lines = (session s input n).lines ++ (byte (session s input n).state (get_or input n 0)).lines;
    } ≡ session s input (n + 1)
unfolding session
session_next s input n = rw add-one refl

pub goes_on : (s : State) (input : List ℕ) (n : ℕ) {d d' : State} {before middle after : Writer} → Goes (session s input n) d before middle
    → Goes (byte d (get_or input n 0)) d' middle after → Goes (session s input (n + 1)) d' before after
goes_on s input n g h =
    let same = ap (λ (x : State). byte x (get_or input n 0)) g.state in
    goes_as (session_next s input n)
    (record {
      state = h.state ∙ ap (λ (x : PairStep). x.state) same;
      lines = appends_more g.lines (appends_as (ap (λ (x : PairStep). x.lines) same) h.lines);
      inside = h.inside;
    })

-- ---- the end of the input

module _ (a b : Kept) (line : List ℕ) (bytes : ℕ) {s : State} (v : record { a = a; b = b; line = take bytes line } ≡ s) (h : bytes ≤ length line) where
  pub goes_finished : (w : Writer) → Room w 0 → bytes ≡ 0 → Goes (finished s) s w w
  unfolding finished
  goes_finished w k z =
      let none = ap (λ (x : State). length x.line) (sym v) ∙ length-take-le bytes line h ∙ z in
      goes_as (sym (cond-true _ _ _ (eq-eqb (length s.line) 0 none))) (goes_still s w k)

  pub finished_some : (bytes ≡ 0 → ⊥) → ended s ≡ finished s
  unfolding finished
  finished_some z =
      let size = ap (λ (x : State). length x.line) (sym v) ∙ length-take-le bytes line h in
      sym (cond-false _ _ _ (ne_eqb (length s.line) 0 (λ e. z (sym size ∙ e))))
