-- An end with its ticket and the lengths that are lent, after a call.
use Rattle.end_state.specs.declared.End.{End}
use Rattle.ticket.specs.declared.Ticket.{Ticket}
use Rattle.drive_side.specs.declared.Side.{Side}

-- a side with another state and ticket
abbrev pub after_call : Side → End → Ticket → Side
after_call s e t = record s { end = e; ticket = t }
