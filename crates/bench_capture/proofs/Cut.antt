-- How the input is cut does not matter: the lines of an input that begins with whole flits are the lines of these, and then the lines of
-- the rest, received by the end that the first flits leave. So the program may read as it likes.
use mathlib.Core.List.{List, ◌++◌, append_assoc, append-nil}
use mathlib.Core.Path.{◌≡◌, refl, ap, ap₂, sym, ◌∙◌}
use Prim.Native.Nat.{ℕ, zero, suc, ◌+◌, ◌*◌, ◌/◌, ◌≤◌}
use native.Mathlib.Nat.{add-suc, add-zero}
use native.Mathlib.Omega.{arith}
use lib.ListN.{length, take, drop, length-append, length-drop}
use lib.Seq.{take-append-le, drop-append-le, drop-append-add}
use Rattle.end_state.specs.Ring.{flit_at}
use Rattle.bench_capture.specs.declared.Bench.{Bench}
use Rattle.bench_capture.specs.Bench.{BenchSession, next, flits, whole_flits}
use Rattle.bench_capture.proofs.Laws.{from_here}

-- a flit of the first part, and one of the second
flit_front : (a b : List ℕ) (i : ℕ) → i * 64 + 64 ≤ length a → flit_at (a ++ b) i ≡ flit_at a i
unfolding flit_at
flit_front a b i h =
    ap (take 64) (drop-append-le (i * 64) a b (omega arith))
    ∙ take-append-le 64 (drop (i * 64) a) b (simp length-drop (omega arith))

flit_back : (a b : List ℕ) (m i : ℕ) → length a ≡ m * 64 → flit_at (a ++ b) (m + i) ≡ flit_at b i
unfolding flit_at
flit_back a b m i h =
    let e : (m + i) * 64 ≡ length a + i * 64 = omega arith in
    ap (λ (k : ℕ). take 64 (drop k (a ++ b))) e ∙ ap (take 64) (drop-append-add a b (i * 64))

-- one flit more, and none
flits_more : (store : List ℕ) (s : BenchSession) (input : List ℕ) (n : ℕ)
    → flits store s input (suc n) ≡ next store (flits store s input n) (flit_at input n)
unfolding flits
flits_more store s input n = refl

flits_none : (store : List ℕ) (s : BenchSession) (input : List ℕ) → flits store s input zero ≡ s
unfolding flits
flits_none store s input = refl

flits_front : (store : List ℕ) (s : BenchSession) (a b : List ℕ) (n : ℕ) → n * 64 ≤ length a → flits store s (a ++ b) n ≡ flits store s a n
flits_front store s a b zero h = flits_none store s (a ++ b) ∙ sym (flits_none store s a)
flits_front store s a b (suc n) h =
    flits_more store s (a ++ b) n
    ∙ ap₂ (next store) (flits_front store s a b n (omega arith)) (flit_front a b n (omega arith))
    ∙ sym (flits_more store s a n)

flits_back : (store : List ℕ) (s : BenchSession) (a b : List ℕ) (m n : ℕ) → length a ≡ m * 64
    → flits store s (a ++ b) (m + n) ≡ flits store (flits store s a m) b n
flits_back store s a b m zero h =
    ap (flits store s (a ++ b)) (add-zero m)
    ∙ flits_front store s a b m (omega arith)
    ∙ sym (flits_none store (flits store s a m) b)
flits_back store s a b m (suc n) h =
    ap (flits store s (a ++ b)) (add-suc m n)
    ∙ flits_more store s (a ++ b) (m + n)
    ∙ ap₂ (next store) (flits_back store s a b m n h) (flit_back a b m n h)
    ∙ sym (flits_more store (flits store s a m) b n)

-- the lines so far do not matter to what follows
abbrev with_lines : BenchSession → List ℕ → BenchSession
with_lines s lines = record { kept = s.kept; hold = s.hold; lines = lines }

abbrev after_lines : List ℕ → BenchSession → BenchSession
after_lines lines s = with_lines s (lines ++ s.lines)

no_lines : (s : BenchSession) → s ≡ after_lines s.lines (from_here s.kept s.hold)
no_lines s = ap (with_lines s) (sym (append-nil s.lines))

next_apart : (store lines : List ℕ) (s : BenchSession) (flit : List ℕ) → next store (after_lines lines s) flit ≡ after_lines lines (next store s flit)
unfolding next
next_apart store lines s flit = rw append_assoc refl

flits_apart : (store : List ℕ) (s : BenchSession) (b : List ℕ) (n : ℕ)
    → flits store s b n ≡ after_lines s.lines (flits store (from_here s.kept s.hold) b n)
flits_apart store s b zero =
    flits_none store s b
    ∙ no_lines s
    ∙ ap (after_lines s.lines) (sym (flits_none store (from_here s.kept s.hold) b))
flits_apart store s b (suc n) =
    flits_more store s b n
    ∙ ap (λ (t : BenchSession). next store t (flit_at b n)) (flits_apart store s b n)
    ∙ next_apart store s.lines (flits store (from_here s.kept s.hold) b n) (flit_at b n)
    ∙ ap (after_lines s.lines) (sym (flits_more store (from_here s.kept s.hold) b n))

-- the session over a whole input, cut after m flits
pub session_cut : (store : List ℕ) (kept : Bench) (hold a b : List ℕ) (m : ℕ) → length a ≡ m * 64
    → whole_flits store kept hold (a ++ b)
    ≡ after_lines (whole_flits store kept hold a).lines
    (whole_flits store (whole_flits store kept hold a).kept (whole_flits store kept hold a).hold b)
session_cut store kept hold a b m h =
    let here = from_here kept hold in
    let whole : length (a ++ b) / 64 ≡ m + length b / 64 = rw length-append (omega arith) in
    let front : m ≡ length a / 64 = omega arith in
    ap (flits store here (a ++ b)) whole
    ∙ flits_back store here a b m (length b / 64) h
    ∙ ap (λ (k : ℕ). flits store (flits store here a k) b (length b / 64)) front
    ∙ flits_apart store (flits store here a (length a / 64)) b (length b / 64)
