use mathlib.Core.List.{◌++◌}
use mathlib.Core.Path.{◌≡◌}
use Prim.Native.Nat.{◌*◌}
use lib.ListN.{drop}
use Rattle.send_unit.specs.Units.{stored_flits}
use Rattle.send_unit.proofs.copy_flits.Given as goal

abbrev pub invariant-loop-n : goal.invariant-loop-n
invariant-loop-n l =
    l.output ≡ stored_flits l.ring.end.now.capacity.0 l.ring.end.now.first l.ring.store.now l.from l.n ++ drop (l.n * 64) l.initial.output
