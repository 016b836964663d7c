-- `end_state::ring::copy_flit` meets its contract: the part taken is the flit, and the part put is its place.
use mathlib.Core.Path.{refl, ap, ◌∙◌}
use Prim.Native.Nat.{◌+◌, ◌*◌, ◌-◌}
use native.Mathlib.Omega.{arith}
use Rattle.end_state.specs.Ring.{put_at}
use Rattle.end_state.proofs.Parts.{flit_is, put_is}
use Rattle.end_state.proofs.ring.copy_flit.Goals as goal

pub returns : goal.returns
returns c = let a = c.args in
    let t = c.taken-flit in
    let k = c.put in
    let from = a.at * 64 in
    let to = a.over * 64 in
    let f = flit_is a.from.now a.at from (from + 64 - from) refl (omega arith) in
    let w = put_is a.to.now k.new.part a.over to (to + 64 - to) refl (omega arith) in
    w ∙ ap (put_at a.to.now a.over) (k.ensures ∙ t.ensures ∙ f)
