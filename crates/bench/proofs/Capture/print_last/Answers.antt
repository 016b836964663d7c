-- `bench::Capture::print_last` is safe: the lines after the last flit lie in the output.
use Rattle.std.proofs.Common.{arith}
use Rattle.std.specs.Prelude.{cond, Some, None}
use Rattle.bench_line.proofs.Laws.{last_short}
use Rattle.bench.proofs.Capture.print_last.Goals as goal

pub shared_ref_as_front-write : goal.shared_ref_as_front-write
shared_ref_as_front-write g c =
    let s = c.args.self.now in
    let p = c.write_last_lines-bytes.ensures in
    let short = last_short s.rest (cond c.args.ticketed (Some s.kept.ticket) None) in
    omega (arith, short, p.place, p.size)
