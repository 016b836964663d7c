-- `ticket::put_ticket` meets its contract: its lines as one form.
use Rattle.text.proofs.Laws.{appends_as}
use Rattle.ticket.proofs.Laws.{text_is}
use Rattle.ticket.proofs.put_ticket.Goals as goal

pub returns : goal.returns
returns c = appends_as (text_is c.args.t) c.put_counts.ensures
