-- `end_state::walk::cut_units` meets its contract: the walk to the cursor, and on from there.
use native.Mathlib.Omega.{arith}
use Rattle.end_state.specs.Ring.{walk_over}
use Rattle.end_state.proofs.walk.cut_units.Goals as goal

pub walk_on-met-requires : goal.walk_on-met-requires
unfolding walk_over
walk_on-met-requires c = (omega arith, omega arith, c.begun.ensures)
