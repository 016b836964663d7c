-- `crc::step` meets its contract: eight places of a register are its high part, and the table's entry for its low byte.
use mathlib.Core.Path.{◌≡◌, ◌∙◌, ap, ap₂, sym, refl}
use mathlib.Core.List.{List}
use Prim.Native.Nat.{ℕ, ◌*◌, ◌/◌, ◌%◌, ◌^◌, ◌<◌}
use native.Mathlib.Nat.{mod-eq_of_lt}
use native.Mathlib.Omega.{arith}
use lib.ListN.{get_or}
use lib.Bits.{bit_and, bit_xor, and_mask, mask_lt}
use Rattle.crc.specs.Register.{places, generator, table, take_byte}
use Rattle.crc.specs.declared.TheConstants.{TABLE}
use Rattle.crc.proofs.Places.{places_split}
use Rattle.crc.proofs.Table.{entry}
use Rattle.crc.proofs.step.Goals as goal

laid : TABLE ≡ table
unfolding table
laid = refl

value : (r b : ℕ) → b < 2 ^ 8
    → bit_xor (bit_xor (r / 2 ^ 8) (get_or TABLE (bit_and r 255) 0)) (b * 2 ^ 28 % 2 ^ 64) ≡ take_byte r b
value r b hb =
    ap₂ bit_xor
    (ap (bit_xor (r / 2 ^ 8))
    (ap (λ (l : List ℕ). get_or l (bit_and r 255) 0) laid ∙ entry (bit_and r 255) (mask_lt r 8) ∙ ap (places generator 8) (and_mask r 8))
    ∙ sym (places_split generator 8 r))
    (mod-eq_of_lt (omega arith) ∙ ap (λ (x : ℕ). x * 2 ^ 28) (sym (mod-eq_of_lt hb)))

pub returns : goal.returns
returns c = value c.args.r c.args.b c.ranges.b.fits
