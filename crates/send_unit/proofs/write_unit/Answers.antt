-- `send_unit::write_unit` meets its contract: the data flits, the control flit after them, and the check over both.
use mathlib.Core.List.{◌++◌}
use mathlib.Core.Path.{◌≡◌, ap, ◌∙◌}
use Prim.Native.Nat.{ℕ, ◌+◌, ◌*◌, ◌-◌}
use native.Mathlib.Omega.{arith}
use lib.ListN.{drop}
use Rattle.end_state.proofs.Parts.{put_after}
use Rattle.end_state.specs.Refusals.{cursor_at}
use Rattle.end_state.specs.Ring.{stored}
use Rattle.send_unit.specs.Units.{stored_flits, control_at_cursor, unit_sent}
use Rattle.send_unit.proofs.Lengths.{length_stored, length_unsealed, control_sent}
use Rattle.send_unit.proofs.Parts.{seal_onto}
use Rattle.send_unit.proofs.write_unit.Goals as goal

pub returns : goal.returns
unfolding unit_sent
returns c =
    let e = c.args.ring.end.now in
    let store = c.args.ring.store.now in
    let o = c.args.output.now in
    let n = c.args.run.0 in
    let at = c.flits_between-cursor.ensures in
    let s = stored_flits e.capacity.0 e.first store (cursor_at e) n in
    let f = control_sent e store n c.args.acks.0 in
    -- the control flit as it is stored, and as it is told
    let q : c.taken-control.result ≡ control_at_cursor e store n =
    c.taken-control.ensures ∙ c.flit.ensures.value ∙ ap (λ (m : ℕ). stored e store (m + n)) at in
    let v : c.put.new.part ≡ f = c.put.ensures ∙ c.control_told-told.ensures ∙ simp (c.run_length-next.ensures, c.content.ensures, q) in
    -- the output with the unit, but for its check
    let w =
    put_after s c.put.new.part f o c.copy_flits.new.output (n * 64) (n * 64 + 64 - n * 64) (n * 64 + 64)
    (c.copy_flits.ensures ∙ ap (λ (m : ℕ). stored_flits e.capacity.0 e.first store m n ++ drop (n * 64) o) at)
    (length_stored _ _ _ c.args.ring.inside c.args.ring.whole (cursor_at e) n (omega arith))
    (omega arith) v in
    seal_onto (s ++ f) (drop (n * 64 + 64) o) _ _ (n * 64 + 64) w
    (length_unsealed e store n c.args.acks.0 c.args.ring.inside c.args.ring.whole (omega arith)) c.seal.ensures
