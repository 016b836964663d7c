use mathlib.Core.Path.{◌≡◌}
use Prim.Native.Nat.{◌≤◌}
use lib.ListN.{length, drop}
use Rattle.crc.specs.Register.{continued}
use Rattle.crc.proofs.continued.Given as goal

abbrev pub invariant-loop-b : goal.invariant-loop-b
invariant-loop-b l = (l.b-index ≤ length l.part) × (continued l.left (drop l.b-index l.part) ≡ continued l.r l.part)
