-- `crc::laid` meets its contract: the constant is the table, entry for entry, which antt computes here.
use mathlib.Core.Path.{refl}
use Rattle.crc.specs.Register.{table}
use Rattle.crc.proofs.laid.Goals as goal

pub returns : goal.returns
unfolding table
returns c = refl
