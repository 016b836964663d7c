-- `drive_line::run` meets its contract: the command is answered, and its bytes are cleared.
use Rattle.std.proofs.Common.{ℕ, ap, ◌∙◌}
use Rattle.drive_call.specs.Sides.{repeated}
use Rattle.drive_line.proofs.run.Goals as goal

pub returns-clause-bytes_after : goal.returns-clause-bytes_after
unfolding repeated
returns-clause-bytes_after c = c.fill.ensures.after (λ y e. e) ∙ ap (λ (n : ℕ). repeated n 0) c.answer.array_long
