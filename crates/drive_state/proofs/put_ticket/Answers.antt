-- `drive_state::put_ticket` meets its contract: its line as one form.
use Rattle.text.proofs.Laws.{appends_as}
use Rattle.drive_state.proofs.Laws.{ticket_is}
use Rattle.drive_state.proofs.put_ticket.Goals as goal

pub returns : goal.returns
returns c = appends_as (ticket_is c.args.counts) c.put_counts.ensures
