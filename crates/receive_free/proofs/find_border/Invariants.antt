use mathlib.Core.Path.{◌≡◌}
use Prim.Native.Nat.{◌≤◌}
use Rattle.end_state.specs.Ring.{walk_over}
use Rattle.receive_free.specs.Acknowledge.{last_border}
use Rattle.receive_free.proofs.find_border.Given as goal

abbrev pub invariant-loop-n : goal.invariant-loop-n
invariant-loop-n l = record {
  walk : l.w ≡ walk_over l.fn.e.capacity.0 l.fn.e.first l.initial.w l.store l.n;
  flits : l.border.flits ≡ last_border l.fn.e.capacity.0 l.fn.e.first l.initial.w l.store l.n;
  run : l.border.run ≡ (walk_over l.fn.e.capacity.0 l.fn.e.first l.initial.w l.store l.border.flits).run;
  within : l.border.flits ≤ l.n;
}
