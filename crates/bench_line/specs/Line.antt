-- The lines that bench prints (01, "The bench ticket"): one for each flit, and those after the last.
use Rattle.std.specs.Prelude.{Option, Some, None, List, [], ◌++◌, ℕ}
use Rattle.text.specs.Text.{ascii, key_value}
use Rattle.text_word.specs.Words.{answer_word, mode_word}
use Rattle.ticket.specs.declared.Ticket.{Ticket}
use Rattle.ticket.specs.Ticket.{text}
use Rattle.end_state.specs.declared.End.{End}
use Rattle.receive_answer.specs.Answers.{tells}
use Rattle.receive_answer.specs.declared.Answer.{Answer}

-- flit counts from 0, data is the data flits that this answer delivered, wanted and mode are as it leaves them
unfoldable pub answer_part : ℕ → Answer → List ℕ
answer_part flit answer =
    key_value "flit=" flit ++ ascii " answer=" ++ answer_word answer ++ key_value " data=" (tells answer).delivered

unfoldable pub state_part : End → List ℕ
state_part e = key_value " wanted=" e.wanted.0 ++ ascii " mode=" ++ mode_word e.mode ++ ascii "\n"

unfoldable pub flit_line : ℕ → Answer → End → List ℕ
flit_line flit answer e = answer_part flit answer ++ state_part e

-- the ticket, where it is asked for
abbrev pub ticket_asked : Option Ticket → List ℕ
ticket_asked None = []
ticket_asked (Some t) = text t

-- rest is the bytes left over; with --ticket the ticket follows
unfoldable pub last_lines : ℕ → Option Ticket → List ℕ
last_lines rest ticket = key_value "rest=" rest ++ ascii "\n" ++ ticket_asked ticket
