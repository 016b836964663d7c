-- `bench_capture::begin` meets its contract.
use Rattle.std.proofs.Common.{refl}
use Rattle.bench_capture.specs.Bench.{bench_begun}
use Rattle.bench_capture.proofs.begin.Goals as goal

pub returns : goal.returns
unfolding bench_begun
returns c = rw (c.start.ensures, c.fresh.ensures) refl
