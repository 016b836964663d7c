-- `drive_state::put_numbers` meets its contract: the fields as one form.
use Rattle.text.proofs.Laws.{appends_as}
use Rattle.drive_state.proofs.Laws.{numbers_are}
use Rattle.drive_state.proofs.put_numbers.Goals as goal

pub returns : goal.returns
returns c = appends_as (numbers_are c.args.e) c.put_form.ensures
