-- `drive_script::commands::two_arguments` meets its contract: poke, lend and count write no bytes.
use Rattle.std.proofs.Common.{sym, ◌∙◌}
use Rattle.drive_token.proofs.Figures.{over_none}
use Rattle.drive_script.specs.Script.{command_of}
use Rattle.drive_script.proofs.Lines.{none_carried, poke_none, lend_none, count_none}
use Rattle.drive_script.proofs.commands.two_arguments.Goals as goal

pub returns-then-is-clause-bytes_after : goal.returns-then-is-clause-bytes_after
unfolding command_of
returns-then-is-clause-bytes_after c = simp (sym c.is.ensures ∙ c.if-is.true, poke_none, over_none)

pub returns-then-is-3-clause-bytes_after : goal.returns-then-is-3-clause-bytes_after
unfolding command_of
returns-then-is-3-clause-bytes_after c =
    simp (sym c.is.ensures ∙ c.if-is.false, sym c.is-else-is.ensures ∙ c.if-is-2.false, sym c.is-else-is-2.ensures ∙ c.if-is-3.true, lend_none, over_none)

pub returns-then-is-4-clause-bytes_after : goal.returns-then-is-4-clause-bytes_after
unfolding command_of
returns-then-is-4-clause-bytes_after c =
    simp (sym c.is.ensures ∙ c.if-is.false, sym c.is-else-is.ensures ∙ c.if-is-2.false, sym c.is-else-is-2.ensures ∙ c.if-is-3.false, sym c.is-else-is-3.ensures ∙ c.if-is-4.true, count_none, over_none)

pub returns-else-is-4-clause-bytes_after : goal.returns-else-is-4-clause-bytes_after
unfolding command_of
returns-else-is-4-clause-bytes_after c =
    simp (sym c.is.ensures ∙ c.if-is.false, sym c.is-else-is.ensures ∙ c.if-is-2.false, sym c.is-else-is-2.ensures ∙ c.if-is-3.false, sym c.is-else-is-3.ensures ∙ c.if-is-4.false, none_carried, over_none)
