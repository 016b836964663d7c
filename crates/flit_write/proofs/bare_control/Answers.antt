-- `flit_write::bare_control` meets its contract: the content is the one that was read, but for its upper bits.
use Prim.Native.Nat.{ℕ, ◌%◌}
use Rattle.flit_write.specs.Flits.{bare_control, with_content}
use mathlib.Core.Path.{ap, ◌∙◌}
use Rattle.flit_write.proofs.bare_control.Goals as goal

pub returns : goal.returns
unfolding bare_control
returns c = let a = c.args in
    c.with_content.ensures ∙ ap (λ (x : ℕ). with_content a.flit (x % 262144)) c.content-c.ensures
