-- `drive_state::put_rest` meets its contract: the fields as one form.
use Rattle.text.proofs.Laws.{appends_as}
use Rattle.drive_state.proofs.Laws.{rest_is}
use Rattle.drive_state.proofs.put_rest.Goals as goal

pub returns : goal.returns
returns c = let a = c.args in
    appends_as (rest_is a.e a.store a.hold) c.put_form.ensures
