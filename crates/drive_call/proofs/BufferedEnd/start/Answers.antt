-- `BufferedEnd::start` meets its contract.
use Rattle.std.proofs.Common.{arith, ◌∙◌}
use Rattle.drive_call.specs.Sides.{side_started}
use Rattle.drive_call.proofs.Calls.{Left, started}
use Rattle.drive_call.proofs.BufferedEnd.start.Goals as goal

left : (g : _) → (c : goal.After-self-4-1 g)
    → Left (side_started c.args.bytes) c.start-took.result.side c.start-took.new.store c.start-took.new.hold c.start-took.result.answer
left g c =
    let r = c.start-took in
    started (omega (arith, c.requires, c.self.told)) c.self.invariant.2.hold_kept r.ensures.store_after r.ensures.hold_after r.ensures.value

pub invariant_of-self : goal.invariant_of-self
invariant_of-self g c = (c.start-took.auto.store ∙ c.self.invariant.0, c.start-took.auto.hold ∙ c.self.invariant.1, (left g c).buffers)

pub returns-clause-value : goal.returns-clause-value
returns-clause-value g c = (left g c).value

pub returns-clause-kept_after : goal.returns-clause-kept_after
returns-clause-kept_after g c = (left g c).kept
