-- `drive_line::put_plain` meets its contract: two texts, one after the other.
use Rattle.std.proofs.Common.{arith}
use Rattle.text.proofs.Laws.{length_decimal, field_end, appends_more}
use Rattle.drive_line.specs.Lines.{stated}
use Rattle.drive_line.proofs.put_plain.Goals as goal

pub put_field-requires : goal.put_field-requires
put_field-requires c = omega (arith, length_decimal c.args.refuse, c.requires.0, c.requires.1)

pub put_state-requires : goal.put_state-requires
put_state-requires c =
    let p = c.put_field.ensures.puts in
    omega (arith, c.requires.0, c.requires.1, field_end c.args.word.now c.args.refuse p, p.size)

pub returns : goal.returns
unfolding stated
returns c = appends_more c.put_field.ensures c.put_state.ensures
