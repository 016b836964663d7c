use mathlib.Core.Path.{sym}
use native.Mathlib.Omega.{arith}
use Rattle.std.proofs.lemmas.Grind.{common_steps}
use Rattle.crc.specs.Unit.{right}
use Rattle.receive_test.specs.Arrivals.{checked}
use Rattle.receive_state.specs.Effects.{end_after}
use Rattle.receive.specs.Receive.{hold_after, answer_to, receive, receive_hold}
use Rattle.receive.proofs.Admission.{admission}
use Rattle.receive.proofs.receive.Goals as goal

pub end_after-end-requires : goal.end_after-end-requires
end_after-end-requires c = let a = c.args in
    let m = admission _ _ _ _ (sym c.in-Ok.ensures) in
    (m.its_store, m.is_sound, (right (checked a.e a.hold.now a.flit.now), c.answer_flit-answer.ensures))

pub returns-in-Err : goal.returns-in-Err
unfolding receive receive_hold answer_to end_after hold_after
returns-in-Err c = grind (arith, common_steps)

pub returns-in-Ok : goal.returns-in-Ok
unfolding receive receive_hold answer_to
returns-in-Ok c = grind (arith, common_steps)
