-- How a session goes on, and how long its lines are.
use mathlib.Core.List.{List, [], ◌++◌}
use mathlib.Core.Path.{◌≡◌, refl, ap, sym, ◌∙◌}
use Prim.Native.Nat.{ℕ, zero, suc, ◌+◌, ◌*◌, ◌/◌, ◌≤◌}
use native.Mathlib.Numerals.{add-one}
use native.Mathlib.Omega.{arith}
use lib.ListN.{length, take, drop, length-append, length-drop}
use lib.Seq.{take-append_seam, drop-append_seam}
use Rattle.std.proofs.lemmas.List.{drop-drop}
use Rattle.text.specs.declared.Writer.{Writer}
use Rattle.text.specs.Text.{Appends}
use Rattle.text.proofs.Laws.{appends_none, appends_more, appends_as}
use Rattle.end_state.specs.Ring.{flit_at}
use Rattle.receive.specs.Receive.{receive}
use Rattle.bench_line.proofs.Laws.{line_short}
use Rattle.bench_capture.specs.declared.Bench.{Bench}
use Rattle.bench_capture.specs.Bench.{BenchSession, next, flits, whole_flits}

-- the next flit after n flits
flits_next : (store : List ℕ) (s : BenchSession) (input : List ℕ) (n : ℕ)
    → flits store s input (n + 1) ≡ next store (flits store s input n) (flit_at input n)
unfolding flits
flits_next store s input n = rw add-one refl

-- its flits are counted
pub flits_counted : (store : List ℕ) (s : BenchSession) (input : List ℕ) (n : ℕ) → (flits store s input n).kept.flits ≡ s.kept.flits + n
unfolding flits next
flits_counted store s input zero = omega arith
flits_counted store s input (suc n) = omega (arith, flits_counted store s input n)

-- a line is at most 128 bytes
pub lines_short : (store : List ℕ) (s : BenchSession) (input : List ℕ) (n : ℕ)
    → length (flits store s input n).lines ≤ length s.lines + n * 128
unfolding flits next
lines_short store s input zero = omega arith
lines_short store s input (suc n) =
    let before = flits store s input n in
    let answered = receive before.kept.end store before.hold (flit_at input n) in
    simp length-append (omega (arith, lines_short store s input n, line_short before.kept.flits answered.answer answered.end))

-- a flit cut off from what is left of an input after n flits, and what is left after it
pub cut_off : (input flit left rest : List ℕ) (n : ℕ) → left ≡ drop (n * 64) input → left ≡ flit ++ rest → length flit ≡ 64
    → (flit ≡ flit_at input n) × (rest ≡ drop ((n + 1) * 64) input) × ((n + 1) * 64 ≤ length input)
unfolding flit_at
cut_off input flit left rest n e f h =
    let whole : flit ++ rest ≡ drop (n * 64) input = sym f ∙ e in
    let past : n * 64 + length flit ≡ (n + 1) * 64 = omega arith in (
      sym (take-append_seam flit rest) ∙ ap (take (length flit)) whole ∙ ap (λ (k : ℕ). take k (drop (n * 64) input)) h,
      sym (drop-append_seam flit rest)
          ∙ ap (drop (length flit)) whole
          ∙ drop-drop (length flit) (n * 64) input
          ∙ ap (λ (k : ℕ). drop k input) past,
      omega (arith, h, simp (length-append, length-drop) at (ap length whole)),
    )

-- what is kept, hold and the output after n flits
pub record After (store : List ℕ) (s : BenchSession) (input : List ℕ) (out : Writer) (n : ℕ) (kept : Bench) (hold : List ℕ) (printed : Writer) : Type 0 where
  pub keeps : kept ≡ (flits store s input n).kept
  pub holds : hold ≡ (flits store s input n).hold
  pub prints : Appends out (flits store s input n).lines printed

-- no lines so far
abbrev pub from_here : Bench → List ℕ → BenchSession
from_here kept hold = record { kept = kept; hold = hold; lines = [] }

pub after_none : (store : List ℕ) (input : List ℕ) (out : Writer) (kept : Bench) (hold : List ℕ)
    → After store (from_here kept hold) input out 0 kept hold out
unfolding flits
after_none store input out kept hold = record { keeps = refl; holds = refl; prints = appends_none out }

after_next : (store : List ℕ) (s : BenchSession) (out : Writer) (flit : List ℕ) (kept : Bench) (hold : List ℕ) (printed printed' : Writer) (kept' : Bench) (hold' : List ℕ)
    → kept ≡ s.kept → hold ≡ s.hold → Appends out s.lines printed
    → kept' ≡ (next store (from_here kept hold) flit).kept → hold' ≡ (next store (from_here kept hold) flit).hold
    → Appends printed (next store (from_here kept hold) flit).lines printed'
    → (kept' ≡ (next store s flit).kept) × (hold' ≡ (next store s flit).hold) × Appends out (next store s flit).lines printed'
unfolding next
after_next store s out flit kept hold printed printed' kept' hold' e f p k h q =
    (rw (e, f) at k, rw (e, f) at h, appends_more p (rw (e, f) at q))

pub goes_on : (store : List ℕ) (s : BenchSession) (input : List ℕ) (out : Writer) (flit : List ℕ) (n : ℕ) (kept : Bench) (hold : List ℕ) (printed printed' : Writer) (kept' : Bench) (hold' : List ℕ)
    → After store s input out n kept hold printed → flit ≡ flit_at input n
    → kept' ≡ (next store (from_here kept hold) flit).kept → hold' ≡ (next store (from_here kept hold) flit).hold
    → Appends printed (next store (from_here kept hold) flit).lines printed'
    → After store s input out (n + 1) kept' hold' printed'
goes_on store s input out flit n kept hold printed printed' kept' hold' a e k h q =
    let l = after_next store (flits store s input n) out flit kept hold printed printed' kept' hold' a.keeps a.holds a.prints k h q in
    let g = ap (λ (f : List ℕ). next store (flits store s input n) f) e ∙ sym (flits_next store s input n) in
    record {
      keeps = l.0 ∙ ap (λ (t : BenchSession). t.kept) g;
      holds = l.1 ∙ ap (λ (t : BenchSession). t.hold) g;
      prints = appends_as (ap (λ (t : BenchSession). t.lines) g) l.2;
    }

-- ---- what a caller of print_flits needs of its numbers

pub session_counted : (store : List ℕ) (kept : Bench) (hold input : List ℕ) (kept' : Bench) → kept' ≡ (whole_flits store kept hold input).kept
    → kept'.flits ≡ kept.flits + length input / 64
session_counted store kept hold input kept' e =
    ap (λ (k : Bench). k.flits) e ∙ flits_counted store (from_here kept hold) input (length input / 64)

pub session_short : (store : List ℕ) (kept : Bench) (hold input : List ℕ) (before after : Writer)
    → Appends before (whole_flits store kept hold input).lines after → after.at ≤ before.at + length input / 64 * 128
session_short store kept hold input before after p =
    omega (arith, p.puts.place, lines_short store (from_here kept hold) input (length input / 64))
