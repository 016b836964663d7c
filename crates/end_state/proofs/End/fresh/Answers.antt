use mathlib.Core.Path.{refl}
use Rattle.end_state.specs.State.{fresh}
use Rattle.end_state.proofs.End.fresh.Goals as goal

pub returns : goal.returns
unfolding fresh
returns c = refl
