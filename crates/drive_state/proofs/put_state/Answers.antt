-- `drive_state::put_state` meets its contract: numbers, the mode's word, and the rest.
use mathlib.Core.Path.{ap}
use native.Mathlib.Omega.{arith}
use lib.ListN.{length}
use Rattle.text.proofs.Laws.{appends_more, appends_as}
use Rattle.text_word.proofs.Laws.{mode_short}
use Rattle.drive_state.proofs.Laws.{numbers_short, state_is}
use Rattle.drive_state.proofs.put_state.Goals as goal

pub put-requires : goal.put-requires
put-requires c =
    let p = c.put_numbers.ensures.puts in
    omega (arith, p.place, p.size, numbers_short c.args.e, ap length c.mode_word.ensures, mode_short c.args.e.mode, c.requires)

pub put_rest-requires : goal.put_rest-requires
put_rest-requires c =
    let e = c.args.e in
    let p = c.put_numbers.ensures.puts in
    let q = c.put.ensures.puts in
    omega (arith, p.place, p.size, numbers_short e, q.place, q.size, ap length c.mode_word.ensures, mode_short e.mode, c.requires)

pub returns : goal.returns
returns c =
    let a = c.args in
    let store = c.adler in
    let hold = c.adler-2 in
    appends_as (state_is a.e a.store.now a.hold.now store.result hold.result store.ensures.0 hold.ensures.0)
    (appends_more (appends_more c.put_numbers.ensures (appends_as c.mode_word.ensures c.put.ensures)) c.put_rest.ensures)
