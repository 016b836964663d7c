-- `accept_verdict::unit_shaped` meets its contract.
use mathlib.Core.Path.{refl}
use Rattle.accept_verdict.specs.Admission.{unit_shaped}
use Rattle.accept_verdict.proofs.unit_shaped.Goals as goal

pub returns : goal.returns
unfolding unit_shaped
returns c = refl
