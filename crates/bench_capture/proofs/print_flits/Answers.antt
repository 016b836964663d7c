-- `bench_capture::print_flits` meets its contract: after n turns, what is kept, hold and the output are as after the first n flits.
use Rattle.std.proofs.Common.{rules, ◌≡◌, ◌/◌, ℕ, length, arith, ap, ◌∙◌}
use lib.ListN.{length-append, length-drop}
use Rattle.text.proofs.Laws.{appends_as}
use Rattle.bench_capture.specs.declared.Bench.{Bench}
use Rattle.bench_capture.specs.Bench.{BenchSession, flits}
use Rattle.bench_capture.proofs.Laws.{after_none, from_here, flits_counted, lines_short, goes_on, cut_off}
use Rattle.bench_capture.proofs.print_flits.Goals as goal

pub loop-flit-init : goal.loop-flit-init
loop-flit-init c = (after_none _ _ _ _ _, search rules, search rules, omega arith)

pub print_flit-kept-requires : goal.print_flit-kept-requires
print_flit-kept-requires c =
    let a = c.args in
    let l = c.loop-flit in
    let n = length l.yielded in
    let s = from_here a.b a.hold.now in
    let steps = c.in-Some.ensures.steps in
    let cut = cut_off a.input.now _ _ _ n l.invariant.2 steps.1.0 (steps.1.1 ∙ l.invariant.1) in
    let counted = flits_counted a.store.now s a.input.now n in
    let short = lines_short a.store.now s a.input.now n in
    let same = ap (λ (k : Bench). k.flits) l.invariant.0.keeps in
    let puts = l.invariant.0.prints.puts in
    (omega (arith, c.requires.0, cut.2), omega (arith, c.requires.1, puts.place, puts.size, cut.2))

pub loop-flit-preserved : goal.loop-flit-preserved
loop-flit-preserved c =
    let a = c.args in
    let l = c.loop-flit in
    let p = c.print_flit-kept.ensures in
    let steps = c.in-Some.ensures.steps in
    let cut = cut_off a.input.now _ _ _ (length l.yielded) l.invariant.2 steps.1.0 (steps.1.1 ∙ l.invariant.1) in
    let on = goes_on a.store.now (from_here a.b a.hold.now) a.input.now a.writer.now _ (length l.yielded) l.kept l.hold l.writer _ _ _ l.invariant.0 cut.0 p.kept_value p.hold_after p.appends in
    rw length-append (on, steps.0 ∙ l.invariant.1, cut.1, cut.2)

pub returns : goal.returns
returns c =
    let a = c.args in
    let l = c.loop-flit in
    let left = simp length-drop at (ap length l.invariant.2) in
    let e : length l.yielded ≡ length a.input.now / 64 = omega (arith, c.in-None.ensures.steps, l.invariant.1, l.invariant.3, left) in
    let at : ℕ → BenchSession = λ (n : ℕ). flits a.store.now (from_here a.b a.hold.now) a.input.now n in
    record {
      kept_value = l.invariant.0.keeps ∙ ap (λ (n : ℕ). (at n).kept) e;
      hold_after = l.invariant.0.holds ∙ ap (λ (n : ℕ). (at n).hold) e;
      appends = appends_as (ap (λ (n : ℕ). (at n).lines) e) l.invariant.0.prints;
    }
