-- `flit_read::read::content` meets its contract: the flit ends after the eight bytes.
use lib.Seq.{take_all}
use lib.ListN.{drop, length-drop}
use native.Mathlib.Omega.{arith}
use mathlib.Core.Path.{ap, ◌∙◌}
use Rattle.flit_read.specs.Bytes.{number}
use Rattle.flit_read.proofs.Laws.{number_8}
use Rattle.flit_read.proofs.read.content.Goals as goal

pub returns : goal.returns
returns c = c.from_le_bytes.ensures ∙ number_8 c.taken.result (omega arith)
    ∙ ap number (c.taken.ensures ∙ take_all _ (drop 56 c.args.flit.now) (simp length-drop (omega arith)))
