-- `BufferedEnd::fill` meets its contract.
use Rattle.std.proofs.Common.{◌∙◌}
use Rattle.drive_call.specs.Sides.{fills}
use Rattle.drive_call.proofs.Calls.{Left, filled}
use Rattle.drive_call.proofs.BufferedEnd.fill.Goals as goal

left : (g : _) → (c : goal.After-self-1 g)
    → Left (fills c.args.self.now c.args.offset c.args.bytes.now) c.self.inside.side c.fill.new.store c.self.inside.hold c.fill.result
left g c = filled c.self.invariant.2 c.self.view_is c.args.offset c.args.bytes.now c.fill.ensures.value c.fill.ensures.store_after

pub invariant_of-self : goal.invariant_of-self
invariant_of-self g c = (c.fill.auto.store ∙ c.self.invariant.0, c.self.invariant.1, (left g c).buffers)

pub returns-clause-value : goal.returns-clause-value
returns-clause-value g c = (left g c).value

pub returns-clause-kept_after : goal.returns-clause-kept_after
returns-clause-kept_after g c = (left g c).kept
