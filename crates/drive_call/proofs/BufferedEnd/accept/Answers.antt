-- `BufferedEnd::accept` meets its contract.
use Rattle.std.proofs.Common.{◌∙◌}
use Rattle.drive_call.specs.Sides.{accepts}
use Rattle.drive_call.proofs.Calls.{Left, accepted}
use Rattle.drive_call.proofs.BufferedEnd.accept.Goals as goal

left : (g : _) → (c : goal.After-self-3-1 g)
    → Left (accepts c.args.self.now c.args.unit.now) c.accept-took.result.side c.accept-took.new.store c.self.inside.hold c.accept-took.result.answer
left g c =
    let r = c.accept-took in
    accepted c.self.invariant.2 c.self.view_is c.args.unit.now r.ensures.value r.ensures.store_after

pub invariant_of-self : goal.invariant_of-self
invariant_of-self g c = (c.accept-took.auto.store ∙ c.self.invariant.0, c.self.invariant.1, (left g c).buffers)

pub returns-clause-value : goal.returns-clause-value
returns-clause-value g c = (left g c).value

pub returns-clause-kept_after : goal.returns-clause-kept_after
returns-clause-kept_after g c = (left g c).kept
