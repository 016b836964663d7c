-- `end_state::walk::walk_on` meets its contract: from wherever the walk began, it stands at flit n.
use mathlib.Core.Bool.{◌&&◌}
use mathlib.Core.Path.{◌≡◌, sym, ap, ap₂, ◌∙◌}
use Prim.Native.Nat.{ℕ, ◌+◌, ◌-◌, ◌<◌}
use native.Mathlib.Omega.{arith}
use lib.Dec.{eqb}
use Rattle.end_state.specs.Ring.{walk_begun, walk_over, passed}
use Rattle.end_state.specs.declared.walk.Walk.{Walk}
use Rattle.end_state.proofs.Walks.{walk_step, walk_data}
use Rattle.end_state.proofs.walk.walk_on.Goals as goal
use Rattle.end_state.proofs.walk.walk_on.Goals.{then-data-gt0+else-end-n, else-data-gt0}

-- past some data flits
abbrev past : Walk → ℕ → Walk
past w flits = record { left = w.left - flits; run = w.run; border = w.border && eqb flits 0; sound = w.sound }

pub returns-then-end-n : goal.returns-then-end-n
returns-then-end-n c =
    let e = c.args.ring.end.now in
    let s = c.args.ring.store.now in
    let o = walk_begun e.kept.0 in
    let v = c.loop-n.invariant.1 in
    let m = ap (λ (w : Walk). w.left) v in
    let n = c.loop-n.n in
    let d = c.args.end - n in
    let t : n + d ≡ c.args.end = omega arith in
    c.past_data.ensures ∙ ap (λ (w : Walk). past w d) v ∙ sym (walk_data e.capacity.0 e.first o s n d (omega arith))
    ∙ ap (walk_over e.capacity.0 e.first o s) t

pub loop-n-preserved : goal.loop-n-preserved
loop-n-preserved c =
    let e = c.args.ring.end.now in
    let s = c.args.ring.store.now in
    let o = walk_begun e.kept.0 in
    let v = c.loop-n.invariant.1 in
    let m = ap (λ (w : Walk). w.left) v in
    let n = c.loop-n.n in
    let d = c.loop-n.w.left in
    let k : (n + d ≡ c.if-data-gt0.n) × (c.if-data-gt0.n < c.args.end) =
    elim c.if-data-gt0.branch [ then-data-gt0+else-end-n w ↦ (omega arith, omega arith) | else-data-gt0 w ↦ (omega arith, omega arith) ] in
    let at_control = c.past_data-in-loop-n.ensures ∙ ap (λ (w : Walk). past w d) v ∙ sym (walk_data e.capacity.0 e.first o s n d (omega arith))
    ∙ ap (walk_over e.capacity.0 e.first o s) k.0 in
    (omega (arith, k.1), c.passed-w.ensures ∙ ap₂ passed c.flit.ensures.value at_control ∙ sym (walk_step e.capacity.0 e.first o s c.if-data-gt0.n))
