-- `drive_session::unstarted_end` meets its contract: all bytes are zeros, and the end is as after a start of no bytes.
use Rattle.std.proofs.Common.{arith, refl}
use Rattle.drive_call.proofs.Lent.{zeros_clean}
use Rattle.drive_call.proofs.Calls.{started_is, started}
use Rattle.drive_line.specs.Lines.{start_line, stated}
use Rattle.drive_session.specs.Drive.{unstarted}
use Rattle.drive_session.proofs.unstarted_end.Goals as goal

pub invariant_of-result : goal.invariant_of-result
invariant_of-result c = (
  (zeros_clean c.zeros-store.result 70000 0 c.zeros-store.ensures (omega arith)).2,
  (zeros_clean c.zeros-hold.result 2000 0 c.zeros-hold.ensures (omega arith)).2,
  (started (omega arith) (omega arith) c.zeros-store.ensures c.zeros-hold.ensures (started_is refl c.start-started.ensures c.fresh-side.ensures)).buffers,
)

pub returns : goal.returns
unfolding unstarted start_line stated
returns c =
    (started (omega arith) (omega arith) c.zeros-store.ensures c.zeros-hold.ensures (started_is refl c.start-started.ensures c.fresh-side.ensures)).kept
