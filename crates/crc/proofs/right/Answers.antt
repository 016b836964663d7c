-- `crc::right` meets its contract: a unit is right exactly when its remainder is 0, which the polynomial's division decides.
use mathlib.Core.Path.{◌∙◌, ap, sym}
use Prim.Native.Nat.{ℕ}
use lib.Dec.{eqb}
use Rattle.crc.proofs.Bytes.{right_continued}
use Rattle.crc.proofs.Divides.{right_Right}
use Rattle.crc.proofs.right.Goals as goal

pub returns : goal.returns
returns c = let r = ap (λ (n : ℕ). eqb n 0) c.continued.ensures ∙ right_continued c.args.unit.now in
    let decides = right_Right c.args.unit.now in
    record { value = r; right = (λ t. decides.0 (sym r ∙ t), λ d. r ∙ decides.1 d) }
