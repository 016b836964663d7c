-- `bench_line::put_answer` meets its contract: four texts, one after the other.
use mathlib.Core.List.{◌++◌}
use mathlib.Core.Path.{ap}
use native.Mathlib.Omega.{arith}
use lib.ListN.{length}
use Rattle.receive_answer.specs.declared.Told.{Told}
use Rattle.text.specs.Text.{ascii, decimal}
use Rattle.text.proofs.Laws.{length_decimal, appends_more, appends_as}
use Rattle.text_word.proofs.Laws.{answer_short}
use Rattle.bench_line.specs.Line.{answer_part}
use Rattle.bench_line.proofs.Laws.{field_short, room_left}
use Rattle.bench_line.proofs.put_answer.Goals as goal

pub put_field-requires : goal.put_field-requires
put_field-requires c = omega (arith, c.requires, length_decimal c.args.flit)

pub put-requires : goal.put-requires
put-requires c = room_left 8 c.put_field.ensures (field_short (ascii "flit=") c.args.flit) (omega (arith, c.requires))

pub put-requires-2 : goal.put-requires-2
put-requires-2 c =
    let key = room_left 47 c.put_field.ensures (field_short (ascii "flit=") c.args.flit) (omega (arith, c.requires)) in
    omega (arith, room_left {most = 8} 39 c.put.ensures (omega arith) key, ap length c.answer_word.ensures, answer_short c.args.answer)

pub put_field-requires-2 : goal.put_field-requires-2
put_field-requires-2 c =
    let key = room_left 47 c.put_field.ensures (field_short (ascii "flit=") c.args.flit) (omega (arith, c.requires)) in
    let answer = room_left {most = 8} 39 c.put.ensures (omega arith) key in
    let word = room_left {most = 9} 30 c.put-2.ensures (omega (arith, ap length c.answer_word.ensures, answer_short c.args.answer)) answer in
    omega (arith, word, length_decimal c.told_by-told.result.delivered)

pub returns : goal.returns
unfolding answer_part
returns c =
    let told = c.told_by-told in
    let last = appends_as (ap (λ (t : Told). ascii " data=" ++ decimal t.delivered) told.ensures) c.put_field-2.ensures in
    appends_more (appends_more (appends_more c.put_field.ensures c.put.ensures) (appends_as c.answer_word.ensures c.put-2.ensures)) last
