-- `ticket_lent::accept` meets its contract: the answer and the store are the call's, and the ticket has counted the answer.
use Rattle.std.proofs.Common.{ap, ◌∙◌}
use Prim.Native.Nat.{ℕ}
use Rattle.ticket.specs.Ticket.{TicketCall, ticket_after}
use Rattle.ticket_lent.proofs.Laws.{accepted_counts, accept_counts}
use Rattle.ticket_lent.proofs.accept.Goals as goal

pub returns : goal.returns
returns c =
    let a = c.args in
    let k = c.accept-accepted.ensures in record {
      answer = k.value;
      ticket = c.after_accept.ensures
          ∙ ap (λ (flits : ℕ). ticket_after a.t.now (TicketCall.accepts c.accept-accepted.result.answer flits)) c.saturating_sub.ensures
          ∙ ap (accepted_counts a.t.now a.e) k.value ∙ accept_counts a.t.now a.e a.store.now a.unit.now;
      stored = k.store_after;
    }
