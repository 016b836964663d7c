use mathlib.Core.Path.{refl, sym, ap, ap₂, ◌∙◌}
use Prim.Native.Nat.{◌+◌}
use native.Mathlib.Omega.{arith}
use Rattle.end_state.specs.Ring.{passed, walk_over}
use Rattle.end_state.specs.declared.walk.Walk.{Walk}
use Rattle.std.proofs.lemmas.Bool.{cond-true, cond-false}
use Rattle.end_state.proofs.Walks.{walk_step}
use Rattle.receive_free.specs.Acknowledge.{last_border}
use Rattle.receive_free.specs.declared.Border.{Border}
use Rattle.receive_free.proofs.Borders.{border_step}
use Rattle.receive_free.proofs.find_border.Goals as goal
use Rattle.receive_free.proofs.find_border.Goals.{then-w, else-w}

pub invariant_of-ring : goal.invariant_of-ring
invariant_of-ring c = record { whole = c.requires.bytes; most = c.requires.most; inside = c.requires.first }

pub loop-n-init : goal.loop-n-init
unfolding walk_over last_border
loop-n-init c = record { walk = refl; flits = refl; run = refl; within = omega arith }

pub loop-n-preserved : goal.loop-n-preserved
loop-n-preserved c = let l = c.loop-n in
    let e = c.args.e in
    let store = c.args.store.now in
    let w = c.begun-w.result in
    let next = c.passed-w.ensures ∙ ap₂ passed c.flit.ensures.value l.invariant.walk ∙ sym (walk_step e.capacity.0 e.first w store l.n) in
    let border = ap (λ (x : Walk). x.border) (sym next) in
    let step = border_step e.capacity.0 e.first w store l.n in
    let run = ap (λ (x : Walk). x.run) next in
    elim c.if-w.branch [
      | then-w v ↦ let is = ap (λ (b : Border). b.flits) v.border-is in record { walk = next; flits = is ∙ sym (step ∙ cond-true _ (l.n + 1) _ (border ∙ v.if-w.true)); run = simp v.border-is run; within = omega arith }
      | else-w v ↦ let is = ap (λ (b : Border). b.flits) v.border-is in record { walk = next; flits = is ∙ l.invariant.flits ∙ sym (step ∙ cond-false _ (l.n + 1) _ (border ∙ v.if-w.false)); run = simp v.border-is l.invariant.run; within = omega arith }
    ]
