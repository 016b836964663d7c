-- `flit_write::idle_flit` meets its contract: the content is the sum of its fields.
use mathlib.Core.Path.{ap, ◌∙◌}
use mathlib.Core.List.{◌++◌}
use Prim.Native.Nat.{ℕ}
use lib.ListN.{replicate}
use Rattle.crc.specs.Seal.{sealed}
use Rattle.flit_read.specs.Bytes.{bytes}
use Rattle.flit_write.specs.Flits.{idle_flit}
use native.Mathlib.Omega.{arith}
use Rattle.flit_write.proofs.Written.{mark_is}
use Rattle.flit_write.proofs.idle_flit.Goals as goal

pub returns : goal.returns
unfolding idle_flit
returns c = c.seal.ensures
    ∙ ap sealed (c.with_content-flit.ensures ∙ ap (λ (x : ℕ). replicate 56 0 ++ bytes 8 x) (omega (arith, mark_is 19 c.args.stalled)))
