-- `drive::print_part` is safe and ends: what is used of the rest is inside it, and is at least a byte.
use Rattle.std.proofs.Common.{◌-◌, ◌<◌, arith, length, sym, ◌∙◌}
use Rattle.std.proofs.lemmas.Bool.{eqb-false}
use lib.ListN.{length-drop}
use Rattle.drive_session.proofs.Taken.{all_taken, taken_some}
use Rattle.drive.proofs.print_part.Goals as goal

pub after-rest-requires : goal.after-rest-requires
after-rest-requires g c = all_taken c.feed-used.result c.loop-rest.pair c.loop-rest.rest.now _ c.feed-used.ensures.used_value

pub loop-rest-smaller : goal.loop-rest-smaller
loop-rest-smaller g c =
    let l = c.loop-rest in
    let more : 0 < length l.rest.now = omega (arith, eqb-false _ 0 (sym c.is_empty.ensures ∙ c.loop-rest-test.true)) in
    let some = taken_some l.pair l.rest.now (length l.out - 0) (length l.rest.now) (omega (arith, c.requires, l.auto.out)) more in
    rw c.after-rest.ensures (simp length-drop (omega (arith, some, c.feed-used.ensures.used_value)))
