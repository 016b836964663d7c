-- `send::send` meets its contract: what is refused changes nothing, and what is admitted writes the burst and moves the end.
use mathlib.Core.Path.{sym, ◌∙◌}
use Rattle.send.specs.Send.{send, send_output}
use Rattle.send.proofs.Cases.{admitted, refused_run, admitted_run_is}
use Rattle.end_state.proofs.Facts.{stored_is, sound_is}
use Rattle.send_burst.proofs.Ready.{ready}
use Rattle.send.proofs.send.Goals as goal

pub invariant_of-ring : goal.invariant_of-ring
invariant_of-ring c =
    let w = admitted _ _ _ (admitted_run_is _ _ _ (sym c.find_run.ensures ∙ c.in-Ok.is)).0 in
    let k = stored_is _ _ w.its_store in
    record { whole = k.whole; most = k.most; inside = (sound_is _ _ w.is_sound).counts.first }

pub write_burst-flits-requires : goal.write_burst-flits-requires
write_burst-flits-requires c =
    let r = admitted_run_is _ _ _ (sym c.find_run.ensures ∙ c.in-Ok.is) in
    let w = admitted _ _ _ r.0 in
    record { state = w.is_sound; run_value = r.1; room = w.room }

pub moved-end-requires : goal.moved-end-requires
moved-end-requires c =
    let r = admitted_run_is _ _ _ (sym c.find_run.ensures ∙ c.in-Ok.is) in
    let w = admitted _ _ _ r.0 in
    (ready _ _ _ w.is_sound r.1).small

pub returns-in-Err : goal.returns-in-Err
unfolding send send_output
returns-in-Err c =
    let v = refused_run _ _ _ (sym c.find_run.ensures ∙ c.in-Err.is) in
    record { value = simp v; output_after = simp v }

pub returns-in-Ok : goal.returns-in-Ok
unfolding send send_output
returns-in-Ok c =
    let r = admitted_run_is _ _ _ (sym c.find_run.ensures ∙ c.in-Ok.is) in
    record {
      value = simp (r.0, ← r.1, ← c.write_burst-flits.ensures.result_value, c.moved-end.ensures);
      output_after = simp (r.0, ← r.1, c.write_burst-flits.ensures.output_after);
    }
