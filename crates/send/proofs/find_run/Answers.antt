-- `send::find_run` meets its contract: at each `return` the tests that led there say which case of `send_verdict` holds.
use mathlib.Core.Path.{sym, ap, ◌∙◌}
use borrow.Author.Tests.{lt-ltb, le-ltb}
use Rattle.std.proofs.lemmas.Result.{err_from_is_err_and}
use Rattle.std.specs.Prelude.{Result}
use Rattle.end_state.specs.Refusals.{previous_run}
use Rattle.end_state.specs.declared.Refusal.{Refusal}
use Rattle.end_judge.proofs.Judged.{refused, judged_ok}
use Rattle.send.specs.Send.{send_verdict, admitted_run}
use Rattle.send.proofs.find_run.Goals as goal

pub returns-in_err-runs : goal.returns-in_err-runs
unfolding send_verdict
returns-in_err-runs c =
    let p = err_from_is_err_and c.from_residual.result c.from_residual.ensures.1 in
    rw (p.1, p.2)
    (ap (λ (v : Result (Unit {0}) Refusal). admitted_run v (previous_run c.args.e c.args.store.now))
    (sym (refused _ _ _ _ (sym c.judge.ensures ∙ c.in_err-runs.was))))

pub returns-then-output-lt-OUTPUT : goal.returns-then-output-lt-OUTPUT
unfolding send_verdict
returns-then-output-lt-OUTPUT c =
    let j = judged_ok _ _ _ (sym c.judge.ensures ∙ c.in_ok-runs.was) in
    simp (j.its_store, j.is_sound, lt-ltb _ _ c.if-output-lt-OUTPUT.true)

pub returns-then-is_down : goal.returns-then-is_down
unfolding send_verdict
returns-then-is_down c =
    let j = judged_ok _ _ _ (sym c.judge.ensures ∙ c.in_ok-runs.was) in
    simp (j.its_store, j.is_sound, le-ltb _ _ c.if-output-lt-OUTPUT.false, ← c.if-is_down.ensures)

pub returns : goal.returns
unfolding send_verdict
returns c =
    let j = judged_ok _ _ _ (sym c.judge.ensures ∙ c.in_ok-runs.was) in
    simp (j.its_store, j.is_sound, le-ltb _ _ c.if-output-lt-OUTPUT.false, ← c.if-is_down.ensures, ← j.previous)
