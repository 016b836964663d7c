-- `drive_line::poke` meets its contract.
use Rattle.std.proofs.Common.{ap, refl, ◌∙◌}
use Rattle.drive_set.specs.Settings.{side_poked}
use Rattle.drive_call.specs.Sides.{Kept}
use Rattle.drive_call.proofs.Calls.{buffered_call, keeps}
use Rattle.drive_line.specs.Lines.{poke_line}
use Rattle.drive_line.proofs.Leaving.{left_stated}
use Rattle.drive_line.proofs.poke.Goals as goal

pub invariant_of-end : goal.invariant_of-end
unfolding side_poked
invariant_of-end c = (c.end.invariant.0, c.end.invariant.1, buffered_call c.poke-end-inside.ensures c.end.invariant.2)

pub returns : goal.returns
unfolding side_poked poke_line
returns c =
    let e = c.end.inside in
    let same = keeps c.poke-end-inside.result (side_poked e.side c.args.field c.args.value) e.store e.hold _ _ c.poke-end-inside.ensures refl refl in
    let l =
    left_stated refl (same ∙ ap (λ (k : Kept). record { side = side_poked k.side c.args.field c.args.value; store = k.store; hold = k.hold }) c.end.view_is)
    c.put_plain.ensures in
    record { kept_after = l.kept_after; appends = l.appends }
