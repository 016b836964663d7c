-- The state of an end and the ticket on one line.
use Rattle.std.specs.Prelude.{Bool, cond, List, [], ◌++◌, ℕ, zero, suc, get_or}
use Rattle.text.specs.Text.{ascii, key_value}
use Rattle.text_hex.specs.Dump.{adler}
use Rattle.text_word.specs.Words.{mode_word}
use Rattle.end_state.specs.declared.End.{End}
use Rattle.ticket.specs.declared.Ticket.{Ticket}

-- ---- the state of an end

-- 1 where it is set
abbrev pub mark_number : Bool → ℕ
mark_number set = cond set 1 0

unfoldable pub ring_part : End → List ℕ
ring_part e =
    key_value " capacity=" e.capacity.0 ++ key_value " first=" e.first ++ key_value " held=" e.held.0 ++ key_value " kept=" e.kept.0

unfoldable pub sending_part : End → List ℕ
sending_part e =
    key_value " oldest=" e.oldest.0 ++ key_value " cursor=" e.cursor.0 ++ key_value " sent=" e.sent.0 ++ key_value " acked=" e.acknowledged.0

unfoldable pub receiving_part : End → List ℕ
receiving_part e =
    key_value " wanted=" e.wanted.0 ++ key_value " position=" e.position.0 ++ key_value " owed=" e.owed.0
    ++ key_value " stalled=" (mark_number e.stalled)
    ++ key_value " data=" e.gathered.0
    ++ key_value " untold=" e.untold.0

unfoldable pub mode_part : End → List ℕ
mode_part e =
    ascii " mode=" ++ mode_word e.mode ++ key_value " cause=" e.cause ++ key_value " discards=" e.discards
    ++ key_value " pending=" (mark_number e.pending)

-- n numbers after the newest, each after a comma
unfoldable pub older : List ℕ → ℕ → List ℕ
older l zero = []
older l (suc n) = older l n ++ key_value "," (get_or l (suc n) 0)

-- eight numbers, newest first
unfoldable pub information_part : List ℕ → List ℕ
information_part l = key_value " info=" (get_or l 0 0) ++ older l 7

-- both buffers whole, and the line's end
unfoldable pub sums_part : List ℕ → List ℕ → List ℕ
sums_part store hold = key_value " store=" (adler store) ++ key_value " hold=" (adler hold) ++ ascii "\n"

-- what stands after the mode, with the checksums of both buffers
abbrev pub after_mode : End → ℕ → ℕ → List ℕ
after_mode e store hold =
    key_value " cause=" e.cause ++ key_value " discards=" e.discards ++ key_value " pending=" (mark_number e.pending) ++ information_part e.information
    ++ (key_value " store=" store ++ key_value " hold=" hold ++ ascii "\n")

-- the state with its store and its hold buffer
unfoldable pub state_text : End → List ℕ → List ℕ → List ℕ
state_text e store hold =
    ring_part e ++ sending_part e ++ receiving_part e ++ mode_part e ++ information_part e.information ++ sums_part store hold

-- ---- the ticket

unfoldable pub ticket_text : Ticket → List ℕ
ticket_text t =
    ascii "ticket refuse=0"
    ++ (key_value " accepted=" t.accepted ++ key_value " delivered=" t.delivered ++ key_value " damaged=" t.damaged
    ++ key_value " duplicate=" t.duplicate
    ++ key_value " downs=" t.downs)
    ++ ascii "\n"
