use mathlib.Core.Path.{refl}
use Rattle.end_state.specs.Refusals.{counts_sound}
use Rattle.end_judge.proofs.counts_sound.Goals as goal

pub returns : goal.returns
unfolding counts_sound
returns c = refl
