use borrow.Author.Tests.{lt-ltb, le-ltb}
use Rattle.end_judge.proofs.inside_oldest.Goals as goal

pub returns-then-e-gt0 : goal.returns-then-e-gt0
returns-then-e-gt0 c = simp (lt-ltb _ _ c.if-e-gt0.true)

pub returns-else-e-gt0 : goal.returns-else-e-gt0
returns-else-e-gt0 c = simp (le-ltb _ _ c.if-e-gt0.false)
