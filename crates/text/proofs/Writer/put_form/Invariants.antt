use Prim.Native.Nat.{◌+◌, ◌-◌, ◌*◌}
use lib.ListN.{length, drop}
use Rattle.text.specs.Text.{Room}
use Rattle.text.proofs.Laws.{Filling}
use Rattle.text.proofs.Writer.put_form.Given as goal

abbrev pub invariant-loop-byte : goal.invariant-loop-byte
invariant-loop-byte l =
    Room l.self (length l.form - l.byte-index + 20 * length l.left)
    × Filling l.initial.self l.form l.numbers l.self (drop l.byte-index l.form) l.left
