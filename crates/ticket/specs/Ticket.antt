-- The counts of a session (01, "The bench ticket"): what a call adds to each, and the ticket as text.
use Rattle.std.specs.Prelude.{cond, List, [], ◌∷◌, ◌++◌, ℕ, ◌+◌, min, leb, length, Option, Some, None, Result, Ok, Err}
use Prim.Native.String.{String}
use Rattle.text.specs.Text.{ascii, key_value, written}
use Rattle.end_state.specs.declared.Refusal.{Refusal}
use Rattle.receive_answer.specs.declared.Answer.{Answer}
use Rattle.receive_answer.specs.declared.Answer.TheVariants as answer
use Rattle.ticket.specs.declared.Ticket.{Ticket}

-- ---- what a call adds

-- a call that counts: accept of a unit of so many flits, with what it returned, and receive, with its answer
pub data TicketCall : Type 0 where
  accepts : Result (Unit {0}) Refusal → ℕ → TicketCall
  receives : Answer → TicketCall

-- TL flits accepted, TL flits delivered, answers damaged, units duplicate, times gone down
abbrev pub counts : ℕ → ℕ → ℕ → ℕ → ℕ → Ticket
counts a b c d e = record { accepted = a; delivered = b; damaged = c; duplicate = d; downs = e }

abbrev pub nothing : Ticket
nothing = counts 0 0 0 0 0

-- a unit is its data flits and the control flit; a refused call adds nothing
unfoldable pub adds : TicketCall → Ticket
adds (accepts (Ok u) flits) = counts flits 0 0 0 0
adds (accepts (Err r) flits) = nothing
adds (receives (answer.Delivered n)) = counts 0 (n.0 + 1) 0 0 0
adds (receives answer.Damaged) = counts 0 0 1 0 0
adds (receives answer.Duplicate) = counts 0 0 0 1 0
adds (receives (answer.Down cause)) = counts 0 0 0 0 1
adds (receives (answer.Refused r)) = nothing
adds (receives answer.Held) = nothing
adds (receives answer.Skipped) = nothing
adds (receives answer.Idle) = nothing
adds (receives answer.Replayed) = nothing
adds (receives answer.Ahead) = nothing
adds (receives answer.Discarded) = nothing

-- counts stop at 4,294,967,295
abbrev pub stopped : ℕ → ℕ
stopped n = min n 4294967295

-- the ticket after a call
unfoldable pub ticket_after : Ticket → TicketCall → Ticket
ticket_after t c =
    counts (stopped (t.accepted + (adds c).accepted)) (stopped (t.delivered + (adds c).delivered)) (stopped (t.damaged + (adds c).damaged))
    (stopped (t.duplicate + (adds c).duplicate))
    (stopped (t.downs + (adds c).downs))

-- the ticket after a list of calls
unfoldable pub ticket_after_all : Ticket → List TicketCall → Ticket
ticket_after_all t [] = t
ticket_after_all t (c ∷ calls) = ticket_after_all (ticket_after t c) calls

-- one of the counts, over a list of calls
unfoldable pub total : (Ticket → ℕ) → List TicketCall → ℕ
total count [] = 0
total count (c ∷ calls) = count (adds c) + total count calls

-- ---- a ticket as text

-- the counts, in the order of the lines
abbrev pub in_order : Ticket → List ℕ
in_order t = t.accepted ∷ t.delivered ∷ t.damaged ∷ t.duplicate ∷ t.downs ∷ []

-- key=value, decimal without leading zeros, a line feed after each
abbrev pub key_line : String → ℕ → List ℕ
key_line key n = key_value key n ++ ascii "\n"

unfoldable pub text : Ticket → List ℕ
text t =
    key_line "accepted=" t.accepted ++ key_line "delivered=" t.delivered ++ key_line "damaged=" t.damaged
    ++ key_line "duplicate=" t.duplicate
    ++ key_line "downs=" t.downs

-- the text goes to the start of a buffer; nothing is written where that is shorter than the text
unfoldable pub answer_for : Ticket → ℕ → Option ℕ
answer_for t bytes = cond (leb (length (text t)) bytes) (Some (length (text t))) None

unfoldable pub ticket_output : Ticket → List ℕ → List ℕ
ticket_output t out = cond (leb (length (text t)) (length out)) (written out 0 (text t)) out
