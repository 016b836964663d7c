-- `flit_write::control_told` meets its contract: the content is the sum of what it is to hold.
use Rattle.flit_write.specs.Flits.{control_told, with_content}
use mathlib.Core.Path.{ap, ◌∙◌}
use native.Mathlib.Omega.{arith}
use Rattle.flit_write.proofs.Written.{mark_is}
use Rattle.flit_write.proofs.control_told.Goals as goal

pub returns : goal.returns
unfolding control_told
returns c = c.with_content.ensures ∙ ap (with_content c.args.flit) (omega (arith, mark_is 19 c.args.stalled))
