-- Accept and receive with the ticket that the caller lends (01, "The bench ticket"): the answer and the end as without it, and the
-- ticket after the call.
use Rattle.std.specs.Prelude.{List, ◌≡◌, ℕ, Result}
use Rattle.end_state.specs.declared.End.{End}
use Rattle.ticket.specs.declared.Ticket.{Ticket}
use Rattle.ticket.specs.Ticket.{TicketCall, ticket_after}
use Rattle.accept_verdict.specs.Admission.{flits_of}
use Rattle.accept.specs.Accept.{accept, accept_store}
use Rattle.end_state.specs.declared.Answered.{Answered}
use Rattle.end_state.specs.declared.Refusal.{Refusal}
use Rattle.receive.specs.Receive.{receive, receive_hold}
use Rattle.receive_answer.specs.declared.Answer.{Answer}

unfoldable pub accept_ticket : Ticket → End → List ℕ → List ℕ → Ticket
accept_ticket t e store unit = ticket_after t (TicketCall.accepts (accept e store unit).answer (flits_of unit))

unfoldable pub receive_ticket : Ticket → End → List ℕ → List ℕ → List ℕ → Ticket
receive_ticket t e store hold flit = ticket_after t (TicketCall.receives (receive e store hold flit).answer)

-- what the calls leave: the answer with the end, the ticket, and the buffer that is lent to be written
pub record AcceptCounts (t : Ticket) (e : End) (store unit : List ℕ) (r : Answered (Result (Unit {0}) Refusal)) (ticket_then : Ticket) (store_then : List ℕ) : Type 0 where
  pub answer : r ≡ accept e store unit
  pub ticket : ticket_then ≡ accept_ticket t e store unit
  pub stored : store_then ≡ accept_store e store unit

pub record ReceiveCounts (t : Ticket) (e : End) (store hold flit : List ℕ) (r : Answered Answer) (ticket_then : Ticket) (hold_then : List ℕ) : Type 0 where
  pub answer : r ≡ receive e store hold flit
  pub ticket : ticket_then ≡ receive_ticket t e store hold flit
  pub held : hold_then ≡ receive_hold e store hold flit
