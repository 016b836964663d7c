use mathlib.Core.Path.{refl}
use Rattle.end_state.specs.Ring.{walk_begun}
use Rattle.end_state.proofs.walk.begun.Goals as goal

pub returns : goal.returns
unfolding walk_begun
returns c = refl
