-- `drive_session::begin` meets its contract.
use mathlib.Core.List.{[]}
use mathlib.Core.Path.{ap₂}
use Rattle.std.proofs.Common.{arith}
use Rattle.drive_call.specs.Sides.{Kept}
use Rattle.drive_call.proofs.Lent.{zeros_clean}
use Rattle.drive_session.specs.Drive.{drive_begun}
use Rattle.drive_session.proofs.begin.Goals as goal

pub invariant_of-result : goal.invariant_of-result
invariant_of-result c =
    let line = zeros_clean c.zeros-line.result 4097 0 c.zeros-line.ensures (omega arith) in
    (line.2, record { inside = omega arith; clean = line.0 })

pub returns : goal.returns
unfolding drive_begun
returns c = ap₂ (λ (a b : Kept). record { a = a; b = b; line = [] }) c.unstarted_end.ensures c.unstarted_end-2.ensures
