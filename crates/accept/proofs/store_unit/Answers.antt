-- `accept::store_unit` meets its contract: each flit is written to the next place.
use native.Mathlib.Numerals.{add-one}
use Rattle.accept.specs.Accept.{flits_stored}
use mathlib.Core.Path.{refl}
use Rattle.accept.proofs.store_unit.Goals as goal

pub loop-n-init : goal.loop-n-init
unfolding flits_stored
loop-n-init c = refl

pub loop-n-preserved : goal.loop-n-preserved
unfolding flits_stored
loop-n-preserved c = rw add-one cc
