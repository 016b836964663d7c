use mathlib.Core.Path.{◌≡◌}
use Prim.Native.Nat.{◌-◌, ◌≤◌}
use Rattle.end_state.specs.Ring.{walked}
use Rattle.end_state.proofs.walk.walk_on.Given as goal

abbrev pub invariant-loop-n : goal.invariant-loop-n
invariant-loop-n l = (l.n ≤ l.end) × (l.w ≡ walked l.ring.end.now l.ring.store.now l.n)

abbrev pub decreases-loop-n : goal.decreases-loop-n
decreases-loop-n l = l.end - l.n
