-- `ticket::after_accept` meets its contract.
use mathlib.Core.Path.{ap}
use native.Mathlib.Omega.{arith}
use Rattle.std.specs.Prelude.{Result}
use Rattle.end_state.specs.declared.Refusal.{Refusal}
use Rattle.ticket.specs.Ticket.{TicketCall, adds, counts}
use Rattle.ticket.proofs.Laws.{after_is, unchanged_is}
use Rattle.ticket.proofs.after_accept.Goals as goal

pub returns-in-Ok : goal.returns-in-Ok
unfolding adds
returns-in-Ok c = let a = c.args in
    after_is a.t (TicketCall.accepts a.answer a.flits.0) (counts a.flits.0 0 0 0 0) _ (ap (λ (v : Result (Unit {0}) Refusal). adds (TicketCall.accepts v a.flits.0)) c.in-Ok.is) (omega arith) (omega arith) (omega arith) (omega arith) (omega arith)

pub returns-in-Err : goal.returns-in-Err
unfolding adds
returns-in-Err c = let a = c.args in
    unchanged_is a.t (TicketCall.accepts a.answer a.flits.0) (omega arith) (omega arith) (omega arith) (omega arith) (omega arith)
    (ap (λ (v : Result (Unit {0}) Refusal). adds (TicketCall.accepts v a.flits.0)) c.in-Err.is)
