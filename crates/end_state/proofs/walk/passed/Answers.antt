use borrow.Author.Tests.{lt-ltb, le-ltb}
use Rattle.end_state.specs.Ring.{passed}
use Rattle.end_state.proofs.walk.passed.Goals as goal

pub returns-then-w-gt0 : goal.returns-then-w-gt0
unfolding passed
returns-then-w-gt0 c = simp (lt-ltb _ _ c.if-w-gt0.true)

pub returns : goal.returns
unfolding passed
returns c = simp (le-ltb _ _ c.if-w-gt0.false, ← c.content.ensures, ← c.run_length-run.ensures, ← c.acceptable.ensures)
