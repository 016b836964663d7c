-- `BufferedEnd::receive` meets its contract.
use Rattle.std.proofs.Common.{◌∙◌}
use Rattle.drive_call.specs.Sides.{receives}
use Rattle.drive_call.proofs.Calls.{Left, received}
use Rattle.drive_call.proofs.BufferedEnd.receive.Goals as goal

left : (g : _) → (c : goal.After-self-3-1 g)
    → Left (receives c.args.self.now c.args.flit.now) c.receive-took.result.side c.self.inside.store c.receive-took.new.hold
    c.receive-took.result.answer
left g c =
    let r = c.receive-took in
    received c.self.invariant.2 c.self.view_is c.args.flit.now r.ensures.value r.ensures.hold_after

pub invariant_of-self : goal.invariant_of-self
invariant_of-self g c = (c.self.invariant.0, c.receive-took.auto.hold ∙ c.self.invariant.1, (left g c).buffers)

pub returns-clause-value : goal.returns-clause-value
returns-clause-value g c = (left g c).value

pub returns-clause-kept_after : goal.returns-clause-kept_after
returns-clause-kept_after g c = (left g c).kept
