-- `crc::seal` meets its contract: the check is the remainder of the unit with zeros in its place, and takes their place.
use mathlib.Core.Path.{◌≡◌, ◌∙◌, ap, ap₂, sym}
use mathlib.Core.List.{List}
use Prim.Native.Nat.{ℕ, ◌≤◌}
use native.Mathlib.Omega.{arith}
use lib.ListN.{length}
use Rattle.crc.specs.Register.{continued}
use Rattle.crc.specs.Seal.{with_check, check_of, sealed}
use Rattle.crc.proofs.Bytes.{continued_remainder}
use Rattle.crc.proofs.Sealing.{with_twice, sealed_long, sealed_short}
use Rattle.crc.proofs.seal.Goals as goal

pub returns-then-unit-lt5 : goal.returns-then-unit-lt5
returns-then-unit-lt5 c = sym (sealed_short c.args.unit.now (omega arith))

-- zeros, their remainder, and the remainder in their place
in_place : (s zeros : List ℕ) (check : ℕ) → 5 ≤ length s → zeros ≡ with_check s 0 → check ≡ continued 0 zeros → with_check zeros check ≡ sealed s
unfolding check_of
in_place s zeros check h z e =
    ap₂ with_check z (e ∙ ap (continued 0) z ∙ continued_remainder (with_check s 0)) ∙ with_twice s 0 (check_of s) h ∙ sym (sealed_long s h)

pub returns : goal.returns
returns c =
    c.put_check-2.ensures
    ∙ in_place c.args.unit.now c.put_check.new.unit c.continued-check.result (omega arith) c.put_check.ensures c.continued-check.ensures
