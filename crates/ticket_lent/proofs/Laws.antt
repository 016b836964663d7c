-- The flits that an accepted unit adds are those that the end then holds more.
use mathlib.Core.List.{List}
use mathlib.Core.Path.{◌≡◌, refl, ap}
use Prim.Native.Nat.{ℕ, ◌+◌, ◌-◌}
use native.Mathlib.Omega.{arith}
use Rattle.end_state.specs.declared.End.{End}
use Rattle.std.specs.Prelude.{Result, Ok, Err}
use Rattle.end_state.specs.declared.Answered.{Answered}
use Rattle.end_state.specs.declared.Refusal.{Refusal}
use Rattle.receive_answer.specs.declared.Answer.{Answer}
use Rattle.ticket.specs.declared.Ticket.{Ticket}
use Rattle.ticket.specs.Ticket.{TicketCall, ticket_after, adds}
use Rattle.accept_verdict.specs.Admission.{flits_of, accept_verdict}
use Rattle.accept.specs.Accept.{accept, accepted_end}
use Rattle.receive.specs.Receive.{receive}
use Rattle.ticket_lent.specs.Counted.{accept_ticket, receive_ticket}

-- the ticket after what a call answered
abbrev pub accepted_counts : Ticket → End → Answered (Result (Unit {0}) Refusal) → Ticket
accepted_counts t before accepted = ticket_after t (TicketCall.accepts accepted.answer (accepted.end.held.0 - before.held.0))

abbrev pub received_counts : Ticket → Answered Answer → Ticket
received_counts t received = ticket_after t (TicketCall.receives received.answer)

by_verdict : (t : Ticket) (e : End) (unit : List ℕ) (v : Result (Unit {0}) Refusal)
    → ticket_after t (TicketCall.accepts v ((accepted_end v e unit).held.0 - e.held.0)) ≡ ticket_after t (TicketCall.accepts v (flits_of unit))
unfolding ticket_after adds
by_verdict t e unit (Err r) = refl
by_verdict t e unit (Ok u) =
    let same : e.held.0 + flits_of unit - e.held.0 ≡ flits_of unit = omega arith in
    ap (λ (n : ℕ). ticket_after t (TicketCall.accepts (Ok u) n)) same

pub accept_counts : (t : Ticket) (e : End) (store unit : List ℕ)
    → accepted_counts t e (accept e store unit) ≡ accept_ticket t e store unit
unfolding accept_ticket accept
accept_counts t e store unit = by_verdict t e unit (accept_verdict e store unit)

pub receive_counts : (t : Ticket) (e : End) (store hold flit : List ℕ)
    → received_counts t (receive e store hold flit) ≡ receive_ticket t e store hold flit
unfolding receive_ticket
receive_counts t e store hold flit = refl
