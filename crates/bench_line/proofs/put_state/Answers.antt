-- `bench_line::put_state` meets its contract: four texts, one after the other.
use mathlib.Core.Path.{ap}
use native.Mathlib.Omega.{arith}
use lib.ListN.{length}
use Rattle.text.specs.Text.{ascii}
use Rattle.text.proofs.Laws.{length_decimal, appends_more, appends_as}
use Rattle.text_word.proofs.Laws.{mode_short}
use Rattle.bench_line.specs.Line.{state_part}
use Rattle.bench_line.proofs.Laws.{field_short, room_left}
use Rattle.bench_line.proofs.put_state.Goals as goal

pub put_field-requires : goal.put_field-requires
put_field-requires c = omega (arith, c.requires, length_decimal c.args.end.wanted.0)

pub put-requires : goal.put-requires
put-requires c = room_left 6 c.put_field.ensures (field_short (ascii " wanted=") c.args.end.wanted.0) (omega (arith, c.requires))

pub put-requires-2 : goal.put-requires-2
put-requires-2 c =
    let key = room_left 20 c.put_field.ensures (field_short (ascii " wanted=") c.args.end.wanted.0) (omega (arith, c.requires)) in
    omega (arith, room_left {most = 6} 14 c.put.ensures (omega arith) key, ap length c.mode_word.ensures, mode_short c.args.end.mode)

pub put-requires-3 : goal.put-requires-3
put-requires-3 c =
    let key = room_left 20 c.put_field.ensures (field_short (ascii " wanted=") c.args.end.wanted.0) (omega (arith, c.requires)) in
    let mode = room_left {most = 6} 14 c.put.ensures (omega arith) key in
    omega (arith, room_left {most = 4} 10 c.put-2.ensures (omega (arith, ap length c.mode_word.ensures, mode_short c.args.end.mode)) mode)

pub returns : goal.returns
unfolding state_part
returns c =
    appends_more (appends_more (appends_more c.put_field.ensures c.put.ensures) (appends_as c.mode_word.ensures c.put-2.ensures)) c.put-3.ensures
