use mathlib.Core.Path.{refl}
use Rattle.end_state.specs.State.{store_fits}
use Rattle.end_state.proofs.is_store.Goals as goal

pub returns : goal.returns
unfolding store_fits
returns c = refl
