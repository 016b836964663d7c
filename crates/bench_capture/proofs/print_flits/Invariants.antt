-- The next flit is the one after those that came: the iterator has the input from there on.
use Rattle.std.proofs.Common.{◌≡◌, ◌*◌, ◌≤◌, length, drop}
use Rattle.bench_capture.proofs.Laws.{After, from_here}
use Rattle.bench_capture.proofs.print_flits.Given as goal

abbrev pub invariant-loop-flit : goal.invariant-loop-flit
invariant-loop-flit l =
    After l.store (from_here l.initial.kept l.initial.hold) l.input l.initial.writer (length l.yielded) l.kept l.hold l.writer
    × (l.flit-iterator.size ≡ 64)
    × (l.flit-iterator.rest.now ≡ drop (length l.yielded * 64) l.input)
    × (length l.yielded * 64 ≤ length l.input)
