-- With each read at most 1,024 flits come, so the count of flits does not wrap.
use Rattle.std.proofs.Common.{◌*◌, ◌≤◌, ◌<◌}
use Rattle.bench.proofs.print_all.Given as goal

abbrev pub invariant-loop : goal.invariant-loop
invariant-loop g l = (l.capture.rest < 64) × (l.capture.kept.flits ≤ 1024 * l.counter)
