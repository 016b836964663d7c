-- `bench::Capture::begin` meets its contract: no flit came so far.
use Rattle.std.proofs.Common.{refl, ap}
use Rattle.bench_capture.specs.declared.Bench.{Bench}
use Rattle.bench_capture.specs.Bench.{bench_begun}
use Rattle.bench.proofs.Capture.begin.Goals as goal

pub returns : goal.returns
unfolding bench_begun
returns c = (refl, ap (λ (k : Bench). k.flits) c.begin.ensures)
