-- `drive_line::accept` meets its contract.
use Rattle.std.proofs.Common.{ap, ◌∙◌, ℕ}
use Rattle.text.specs.Text.{key_value}
use Rattle.end_state.specs.State.{verdict_number}
use Rattle.drive_line.specs.Lines.{accept_line}
use Rattle.drive_line.proofs.Leaving.{left_stated}
use Rattle.drive_line.proofs.accept.Goals as goal

pub returns : goal.returns
unfolding accept_line
returns c =
    let s = c.accept-answer.ensures in
    let l =
    left_stated (ap (λ (n : ℕ). key_value "accept refuse=" n) (c.verdict_number.ensures ∙ ap verdict_number s.value)) s.kept_after c.put_plain.ensures in
    record { kept_after = l.kept_after; appends = l.appends }
