use Prim.Native.Nat.{◌<◌}
use mathlib.Core.Path.{◌≡◌}
use lib.ListN.{drop}
use Rattle.text_hex.specs.Dump.{sums, adler as adler_of}
use Rattle.text_hex.proofs.adler.Given as goal

abbrev pub invariant-loop-byte : goal.invariant-loop-byte
invariant-loop-byte l = (l.a < 281474976710656) × (l.b < 281474976710656) × (sums l.a l.b (drop l.byte-index l.bytes) ≡ adler_of l.bytes)
