-- `drive_call::send` meets its contract: send with what is lent of the store, and an output of bytes 165.
use Rattle.std.proofs.Common.{length}
use Rattle.drive_call.specs.Sides.{repeated}
use Rattle.drive_call.proofs.Calls.{sent_is, sent_output_is}
use Rattle.drive_call.proofs.send.Goals as goal

pub returns : goal.returns
unfolding repeated
returns c =
    let a = c.args in
    let p = c.requires in
    let n = length a.output.now in
    record {
      value = sent_is a.side a.store.now p.0 p.1 p.2 n c.fill.ensures.len c.send-sent.ensures.value c.after_call.ensures;
      output_after =
          sent_output_is a.side a.store.now p.0 p.1 p.2 n a.errors a.information (c.fill.ensures.after (λ y e. e)) c.send-sent.ensures.output_after;
    }
