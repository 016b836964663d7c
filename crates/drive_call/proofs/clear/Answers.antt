-- `drive_call::clear` meets its contract.
use native.Mathlib.Omega.{arith}
use Rattle.drive_call.specs.Sides.{repeated}
use Rattle.drive_call.proofs.Lent.{cleared_some, cleared_none}
use Rattle.drive_call.proofs.clear.Goals as goal

pub returns-then-from-to : goal.returns-then-from-to
unfolding repeated
returns-then-from-to c =
    let a = c.args in
    cleared_some a.buffer.now c.fill.new.self a.from a.to (omega arith) (omega arith) c.requires.2 (c.fill.ensures.after (λ y e. e))

pub returns-else-from-to : goal.returns-else-from-to
returns-else-from-to c = cleared_none c.args.buffer.now c.args.from c.args.to (omega arith) (omega arith) c.requires.2
