-- `drive_line::count` meets its contract.
use Rattle.std.proofs.Common.{ap, refl, ◌∙◌}
use Rattle.drive_set.specs.Settings.{side_counted}
use Rattle.drive_call.specs.Sides.{Kept}
use Rattle.drive_call.proofs.Calls.{buffered_call, keeps}
use Rattle.drive_line.specs.Lines.{count_line}
use Rattle.drive_line.proofs.Leaving.{left_stated}
use Rattle.drive_line.proofs.count.Goals as goal

pub invariant_of-end : goal.invariant_of-end
unfolding side_counted
invariant_of-end c = (c.end.invariant.0, c.end.invariant.1, buffered_call c.count-end-inside.ensures c.end.invariant.2)

pub returns : goal.returns
unfolding side_counted count_line
returns c =
    let e = c.end.inside in
    let same = keeps c.count-end-inside.result (side_counted e.side c.args.key c.args.n) e.store e.hold _ _ c.count-end-inside.ensures refl refl in
    let l =
    left_stated refl (same ∙ ap (λ (k : Kept). record { side = side_counted k.side c.args.key c.args.n; store = k.store; hold = k.hold }) c.end.view_is)
    c.put_plain.ensures in
    record { kept_after = l.kept_after; appends = l.appends }
