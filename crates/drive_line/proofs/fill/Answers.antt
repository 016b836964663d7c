-- `drive_line::fill` meets its contract.
use Rattle.std.proofs.Common.{refl, sym, ◌∙◌}
use Rattle.drive_line.proofs.Leaving.{left_stated, left_filled, left_unfilled}
use Rattle.drive_line.proofs.fill.Goals as goal

pub returns-then-fill : goal.returns-then-fill
returns-then-fill c =
    let a = c.args in
    let f = c.fill.ensures in
    let l = left_filled a.end.now a.offset a.bytes.now (sym f.value ∙ c.if-fill.true) (left_stated refl f.kept_after c.put_plain.ensures) in
    record { kept_after = l.kept_after; appends = l.appends }

pub returns-else-fill : goal.returns-else-fill
returns-else-fill c =
    let a = c.args in
    let f = c.fill.ensures in
    let l = left_unfilled a.end.now a.offset a.bytes.now (sym f.value ∙ c.if-fill.false) f.kept_after c.bad.ensures in
    record { kept_after = l.kept_after; appends = l.appends }
