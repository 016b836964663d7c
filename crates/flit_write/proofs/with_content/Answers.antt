-- `flit_write::with_content` meets its contract: the flit ends after the eight bytes.
use native.Mathlib.Omega.{arith}
use mathlib.Core.Path.{ap, ◌∙◌}
use mathlib.Core.List.{List, ◌++◌}
use Prim.Native.Nat.{ℕ}
use lib.ListN.{take}
use Rattle.flit_read.proofs.Laws.{bytes_8}
use Rattle.flit_write.proofs.Written.{last_bytes}
use Rattle.flit_write.proofs.with_content.Goals as goal

pub returns : goal.returns
returns c = c.with_bytes.ensures ∙ last_bytes c.args.flit _ 56 64 (omega arith)
    ∙ ap (λ (t : List ℕ). take 56 c.args.flit ++ t) (c.to_le_bytes.ensures ∙ bytes_8 c.args.c)
