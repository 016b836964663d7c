-- `crc::remainder` meets its contract: a remainder that begins at 0 is the unit's.
use mathlib.Core.Path.{◌∙◌}
use Rattle.crc.proofs.Bytes.{continued_remainder}
use Rattle.crc.proofs.remainder.Goals as goal

pub returns : goal.returns
returns c = c.continued.ensures ∙ continued_remainder c.args.unit.now
