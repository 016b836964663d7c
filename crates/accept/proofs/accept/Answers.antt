-- `accept::accept` meets its contract: the verdict says whether the state and the store move.
use native.Mathlib.Omega.{arith}
use mathlib.Core.Path.{sym, ◌∙◌}
use Rattle.accept_verdict.proofs.Admitted.{admission}
use Rattle.accept.specs.Accept.{accept, accept_store}
use Rattle.accept.proofs.accept.Goals as goal

pub store_unit-requires : goal.store_unit-requires
store_unit-requires c =
    let f = admission _ _ _ (sym c.verdict-answer.ensures ∙ c.in-Ok.is) in
    omega (arith, f.stored, f.state.counts, f.shape, f.room)

pub overflow_add-result : goal.overflow_add-result
overflow_add-result c =
    let f = admission _ _ _ (sym c.verdict-answer.ensures ∙ c.in-Ok.is) in
    omega (arith, f.stored, f.room)

pub returns-in-Err : goal.returns-in-Err
unfolding accept accept_store
returns-in-Err c =
    let v = sym c.verdict-answer.ensures ∙ c.in-Err.is in
    record { value = simp (v, c.in-Err.is); store_after = simp v }

pub returns-in-Ok : goal.returns-in-Ok
unfolding accept accept_store
returns-in-Ok c =
    let v = sym c.verdict-answer.ensures ∙ c.in-Ok.is in
    record { value = simp (v, c.in-Ok.is); store_after = simp (v, c.store_unit.ensures) }
