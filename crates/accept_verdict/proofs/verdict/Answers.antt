-- `accept_verdict::verdict` meets its contract: at each `return` the tests that led there say which case of `accept_verdict` holds.
use mathlib.Core.List.{List}
use mathlib.Core.Path.{◌≡◌, sym, ◌∙◌}
use Prim.Native.Nat.{ℕ, ◌-◌}
use native.Mathlib.Omega.{arith}
use borrow.Author.Tests.{eq-eqb, ne_eqb, lt-ltb, le-ltb}
use lib.ListN.{length, take, drop, length-drop}
use lib.Seq.{take_all}
use Rattle.std.proofs.lemmas.Result.{err_from_is_err_and}
use Rattle.end_state.proofs.Facts.{stored_is, sound_is}
use Rattle.end_judge.proofs.Judged.{refused, judged_ok}
use Rattle.accept_verdict.specs.Admission.{control_of, accept_verdict}
use Rattle.accept_verdict.proofs.Admitted.{shaped}
use Rattle.accept_verdict.proofs.verdict.Goals as goal

-- the unit's last flit as a part
control_is : (unit : List ℕ) → take (length unit - (length unit - 64)) (drop (length unit - 64) unit) ≡ control_of unit
control_is unit = take_all _ _ (omega (arith, length-drop (length unit - 64) unit))

pub returns-in_err-runs : goal.returns-in_err-runs
unfolding accept_verdict
returns-in_err-runs c =
    let p = err_from_is_err_and c.from_residual.result c.from_residual.ensures.1 in
    rw (p.1, p.2) (sym (refused _ _ _ _ (sym c.judge.ensures ∙ c.in_err-runs.was)))

pub returns-then-not-unit_shaped : goal.returns-then-not-unit_shaped
unfolding accept_verdict
returns-then-not-unit_shaped c =
    let j = judged_ok _ _ _ (sym c.judge.ensures ∙ c.in_ok-runs.was) in
    simp (j.its_store, j.is_sound, ← c.if-not-unit_shaped.ensures)

pub returns-then-is_down : goal.returns-then-is_down
unfolding accept_verdict
returns-then-is_down c =
    let j = judged_ok _ _ _ (sym c.judge.ensures ∙ c.in_ok-runs.was) in
    simp (j.its_store, j.is_sound, ← c.if-not-unit_shaped.ensures, ← c.if-is_down.ensures)

pub overflow_sub-flits : goal.overflow_sub-flits
overflow_sub-flits c = omega (arith, shaped _ (sym c.if-not-unit_shaped.ensures))

pub returns-then-flits-runs : goal.returns-then-flits-runs
unfolding accept_verdict
returns-then-flits-runs c =
    let j = judged_ok _ _ _ (sym c.judge.ensures ∙ c.in_ok-runs.was) in
    let run = ne_eqb _ _ (λ h. c.if-flits-runs.true (h ∙ sym j.last)) in
    simp (j.its_store, j.is_sound, ← c.if-not-unit_shaped.ensures, ← c.if-is_down.ensures, run)

pub overflow_sub-bytes : goal.overflow_sub-bytes
overflow_sub-bytes c = omega (arith, shaped _ (sym c.if-not-unit_shaped.ensures))

pub acceptable-requires : goal.acceptable-requires
acceptable-requires c = simp control_is (omega (arith, length-drop {A = ℕ}, shaped _ (sym c.if-not-unit_shaped.ensures)))

pub returns-then-not-acceptable : goal.returns-then-not-acceptable
unfolding accept_verdict
returns-then-not-acceptable c =
    let j = judged_ok _ _ _ (sym c.judge.ensures ∙ c.in_ok-runs.was) in
    let run = eq-eqb _ _ (c.if-flits-runs.false ∙ j.last) in
    let control = simp control_is at (sym c.if-not-acceptable.ensures) in
    simp (j.its_store, j.is_sound, ← c.if-not-unit_shaped.ensures, ← c.if-is_down.ensures, run, control)

pub overflow_add-e : goal.overflow_add-e
overflow_add-e c =
    let j = judged_ok _ _ _ (sym c.judge.ensures ∙ c.in_ok-runs.was) in
    omega (arith, shaped _ (sym c.if-not-unit_shaped.ensures), (sound_is _ _ j.is_sound).counts.held, (stored_is _ _ j.its_store).most)

pub returns-then-e-flits : goal.returns-then-e-flits
unfolding accept_verdict
returns-then-e-flits c =
    let j = judged_ok _ _ _ (sym c.judge.ensures ∙ c.in_ok-runs.was) in
    let run = eq-eqb _ _ (c.if-flits-runs.false ∙ j.last) in
    let control = simp control_is at (sym c.if-not-acceptable.ensures) in
    simp (j.its_store, j.is_sound, ← c.if-not-unit_shaped.ensures, ← c.if-is_down.ensures, run, control, lt-ltb _ _ c.if-e-flits.true)

pub returns : goal.returns
unfolding accept_verdict
returns c =
    let j = judged_ok _ _ _ (sym c.judge.ensures ∙ c.in_ok-runs.was) in
    let run = eq-eqb _ _ (c.if-flits-runs.false ∙ j.last) in
    let control = simp control_is at (sym c.if-not-acceptable.ensures) in
    simp (j.its_store, j.is_sound, ← c.if-not-unit_shaped.ensures, ← c.if-is_down.ensures, run, control, le-ltb _ _ c.if-e-flits.false)
