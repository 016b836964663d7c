-- `drive_line::lend` meets its contract.
use Rattle.std.proofs.Common.{ap, refl, ◌∙◌, arith}
use Rattle.drive_set.specs.Settings.{side_lent}
use Rattle.drive_call.specs.Sides.{Kept}
use Rattle.drive_call.proofs.Calls.{keeps}
use Rattle.drive_line.specs.Lines.{lend_line}
use Rattle.drive_line.proofs.Leaving.{buffered_lent, left_stated}
use Rattle.drive_line.proofs.lend.Goals as goal

pub invariant_of-end : goal.invariant_of-end
unfolding side_lent
invariant_of-end c =
    let i = c.end.invariant in
    (i.0, i.1, buffered_lent c.lend-end-inside.ensures (omega (arith, c.requires.0, i.0)) (omega (arith, c.requires.1, i.1)) i.2)

pub returns : goal.returns
unfolding side_lent lend_line
returns c =
    let e = c.end.inside in
    let same = keeps c.lend-end-inside.result (side_lent e.side c.args.lent c.args.held) e.store e.hold _ _ c.lend-end-inside.ensures refl refl in
    let l =
    left_stated refl (same ∙ ap (λ (k : Kept). record { side = side_lent k.side c.args.lent c.args.held; store = k.store; hold = k.hold }) c.end.view_is)
    c.put_plain.ensures in
    record { kept_after = l.kept_after; appends = l.appends }
