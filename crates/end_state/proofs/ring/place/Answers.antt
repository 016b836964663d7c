use native.Mathlib.Omega.{arith}
use borrow.Author.Tests.{lt-ltb, le-ltb}
use Rattle.end_state.specs.Ring.{ring_place}
use Rattle.end_state.proofs.ring.place.Goals as goal

pub returns-then-at-places : goal.returns-then-at-places
unfolding ring_place
returns-then-at-places c = record { value = simp (lt-ltb _ _ c.if-at-places.true); upper_bound = omega arith }

pub returns-else-at-places : goal.returns-else-at-places
unfolding ring_place
returns-else-at-places c = record { value = simp (le-ltb _ _ c.if-at-places.false); upper_bound = omega arith }
