use mathlib.Core.Path.{◌≡◌}
use Rattle.accept.specs.Accept.{flits_stored}
use Rattle.accept.proofs.store_unit.Given as goal

abbrev pub invariant-loop-n : goal.invariant-loop-n
invariant-loop-n l = l.store ≡ flits_stored l.e.capacity.0 l.e.first l.e.held.0 l.initial.store l.unit l.n
