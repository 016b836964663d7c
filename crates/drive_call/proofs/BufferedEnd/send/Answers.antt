-- `BufferedEnd::send` meets its contract.
use Rattle.std.proofs.Common.{length}
use Rattle.drive_call.specs.Sides.{sends}
use Rattle.drive_call.proofs.Calls.{Left, sent, sent_output}
use Rattle.drive_call.proofs.BufferedEnd.send.Goals as goal

left : (g : _) → (c : goal.After-self-2-1 g)
    → Left (sends c.args.self.now (length c.args.output.now)) c.send-took.result.side c.self.inside.store c.self.inside.hold c.send-took.result.answer
left g c = sent c.self.invariant.2 c.self.view_is (length c.args.output.now) c.send-took.ensures.value

pub invariant_of-self : goal.invariant_of-self
invariant_of-self g c = (c.self.invariant.0, c.self.invariant.1, (left g c).buffers)

pub returns-clause-value : goal.returns-clause-value
returns-clause-value g c = (left g c).value

pub returns-clause-kept_after : goal.returns-clause-kept_after
returns-clause-kept_after g c = (left g c).kept

pub returns-clause-output_after : goal.returns-clause-output_after
returns-clause-output_after g c =
    let a = c.args in
    sent_output c.self.invariant.2 c.self.view_is (length a.output.now) a.errors a.information c.send-took.ensures.output_after
