-- `send_state::past_unit` meets its contract: sent is the further of the two.
use native.Mathlib.Omega.{arith}
use Rattle.flit_number.proofs.Laws.{difference_lt}
use Rattle.flit_number.specs.Numbers.{width}
use Rattle.send_state.proofs.past_unit.Goals as goal

pub overflow_add-cursor : goal.overflow_add-cursor
overflow_add-cursor c = let a = c.args in
    omega (arith, c.flits_between-cursor.ensures, difference_lt width a.e.cursor.0 a.e.oldest.0)
