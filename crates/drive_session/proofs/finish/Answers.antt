-- `drive_session::finish` meets its contract.
use Rattle.std.proofs.Common.{arith}
use Rattle.drive_pair.proofs.Bytes.{goes_as}
use Rattle.drive_session.proofs.Steps.{goes_finished, finished_some}
use Rattle.drive_session.proofs.finish.Goals as goal

pub returns-then-pair-eq0 : goal.returns-then-pair-eq0
returns-then-pair-eq0 c =
    let p = c.pair.inside in
    goes_finished p.a p.b p.line p.length c.pair.view_is (omega (arith, c.pair.invariant.0, c.pair.invariant.1.inside)) c.args.writer.now (omega (arith, c.requires)) c.if-pair-eq0.true

pub returns : goal.returns
returns c =
    let p = c.pair.inside in
    goes_as (finished_some p.a p.b p.line p.length c.pair.view_is (omega (arith, c.pair.invariant.0, c.pair.invariant.1.inside)) c.if-pair-eq0.false) c.end_line.ensures
