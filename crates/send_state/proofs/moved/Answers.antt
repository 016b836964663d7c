-- `send_state::moved` meets its contract, case by case.
use Prim.Native.Nat.{◌<◌, ◌≤◌}
use native.Mathlib.Omega.{arith}
use borrow.Author.Tests.{lt-ltb, le-ltb}
use Rattle.end_state.specs.Refusals.{cursor_at}
use Rattle.send_state.specs.Moves.{moved}
use Rattle.send_state.proofs.moved.Goals as goal

pub returns-then-e : goal.returns-then-e
unfolding moved
returns-then-e c = simp c.if-e.true

pub returns-then-e-cursor : goal.returns-then-e-cursor
unfolding moved
returns-then-e-cursor c =
    let w : c.args.e.held.0 ≤ cursor_at c.args.e = omega (arith, c.flits_between-cursor.ensures) in
    simp (c.if-e.false, le-ltb _ _ w, ← c.fallen.ensures)

pub returns : goal.returns
unfolding moved
returns c =
    let w : cursor_at c.args.e < c.args.e.held.0 = omega (arith, c.flits_between-cursor.ensures) in
    simp (c.if-e.false, lt-ltb _ _ w, ← c.fallen_past.ensures, c.past_unit.ensures)
