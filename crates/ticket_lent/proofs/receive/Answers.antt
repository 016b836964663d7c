-- `ticket_lent::receive` meets its contract: the answer and the hold are the call's, and the ticket has counted the answer.
use Rattle.std.proofs.Common.{ap, ◌∙◌}
use Rattle.ticket_lent.proofs.Laws.{received_counts, receive_counts}
use Rattle.ticket_lent.proofs.receive.Goals as goal

pub returns : goal.returns
returns c =
    let a = c.args in
    let k = c.receive-received.ensures in record {
      answer = k.value;
      ticket = c.after_receive.ensures ∙ ap (received_counts a.t.now) k.value ∙ receive_counts a.t.now a.e a.store.now a.hold.now a.flit.now;
      held = k.hold_after;
    }
