use mathlib.Core.Bool.{Bool, ◌&&◌}
use mathlib.Core.Path.{ap}
use Prim.Native.Nat.{◌/◌}
use lib.Dec.{eqb}
use Rattle.end_state.specs.Refusals.{store_is}
use Rattle.end_judge.proofs.is_its_store.Goals as goal

pub returns : goal.returns
unfolding store_is
returns c = let a = c.args in
    ap (λ (b : Bool). b && eqb (a.bytes / 64) a.e.capacity.0) c.is_store.ensures
