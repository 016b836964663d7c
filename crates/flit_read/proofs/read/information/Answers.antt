-- `flit_read::read::information` meets its contract: the eight bytes are the lowest 64 bits of the replay content.
use native.Mathlib.Omega.{arith}
use mathlib.Core.Path.{ap, ◌∙◌}
use Rattle.flit_read.specs.Bytes.{number}
use Rattle.flit_read.proofs.Laws.{number_8, number_part}
use Rattle.flit_read.proofs.read.information.Goals as goal

pub returns : goal.returns
returns c = let e = c.from_le_bytes.ensures ∙ number_8 c.taken.result (omega arith) ∙ ap number c.taken.ensures in
    omega (arith, number_part 8 c.args.flit.now 44 (omega arith))
