-- `drive_script::commands::fill` meets its contract: nothing is written before the offset is read.
use Rattle.std.proofs.Common.{sym, ◌∙◌}
use Rattle.std.proofs.lemmas.Option.{cond_some}
use Rattle.drive_token.specs.Tokens.{is_decimal, offset_value}
use Rattle.drive_token.proofs.Cuts.{cond_none}
use Rattle.drive_token.proofs.Figures.{over_none}
use Rattle.drive_script.proofs.Lines.{fill_none, fill_some}
use Rattle.drive_script.proofs.commands.fill.Goals as goal

pub returns-in_err-o-clause-bytes_after : goal.returns-in_err-o-clause-bytes_after
returns-in_err-o-clause-bytes_after c = let o = c.args.offset.now in
    let k = cond_none (is_decimal o) (offset_value o) (sym c.offset.ensures ∙ c.in_err-o.was) in
    simp (fill_none o c.args.hex.now k, over_none)

pub returns-in_err-n-clause-bytes_after : goal.returns-in_err-n-clause-bytes_after
returns-in_err-n-clause-bytes_after c = let o = c.args.offset.now in
    let k = cond_some (is_decimal o) (offset_value o) c.in_ok-o.o (sym c.offset.ensures ∙ c.in_ok-o.was) in
    simp (fill_some o c.args.hex.now k.0) c.take_hex.ensures.bytes_after

pub returns-clause-bytes_after : goal.returns-clause-bytes_after
returns-clause-bytes_after c = let o = c.args.offset.now in
    let k = cond_some (is_decimal o) (offset_value o) c.in_ok-o.o (sym c.offset.ensures ∙ c.in_ok-o.was) in
    simp (fill_some o c.args.hex.now k.0) c.take_hex.ensures.bytes_after
