-- `drive_session::zeros` meets its contract.
use Rattle.std.proofs.Common.{rules}
use Rattle.drive_call.specs.Sides.{repeated}
use Rattle.drive_session.proofs.zeros.Goals as goal

pub returns : goal.returns
unfolding repeated
returns g c = search rules
