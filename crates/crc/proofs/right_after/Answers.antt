-- `crc::right_after` meets its contract: the remainder of one part, continued over the other, is that of both in a row.
use mathlib.Core.Path.{◌∙◌, ap, sym}
use mathlib.Core.List.{◌++◌}
use Prim.Native.Nat.{ℕ}
use lib.Dec.{eqb}
use Rattle.crc.specs.Register.{continued}
use Rattle.crc.proofs.Bytes.{continued_append, right_continued}
use Rattle.crc.proofs.right_after.Goals as goal

pub returns : goal.returns
returns c = let held = c.args.held.now in
    let flit = c.args.flit.now in
    ap (λ (n : ℕ). eqb n 0)
    (c.continued.ensures ∙ ap (λ (n : ℕ). continued n flit) c.continued-so_far.ensures ∙ sym (continued_append 0 held flit))
    ∙ right_continued (held ++ flit)
