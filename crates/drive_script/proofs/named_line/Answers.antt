-- `drive_script::named_line` meets its contract, by the end that is named.
use Rattle.std.proofs.Common.{◌≡◌, ℕ, List, ◌∷◌, Option, Some, None, unwrap_or, ap, sym, ◌∙◌}
use Rattle.drive_token.specs.Tokens.{tokens, tokens_in, last, over}
use Rattle.drive_token.proofs.Figures.{over_none}
use Rattle.drive_name.specs.Names.{end_of}
use Rattle.drive_script.specs.declared.Command.{Command}
use Rattle.drive_script.specs.declared.Command.TheVariants as command
use Rattle.drive_script.specs.Script.{command_of, for_end, for_named, line_from, line_named, line_of, bytes_of}
use Rattle.drive_script.proofs.Lines.{bad_carried, carried_or_bad, last_carried}
use Rattle.drive_script.proofs.named_line.Goals as goal
use Rattle.drive_script.proofs.named_line.Goals.{After-cut-2}

-- the word and the end are cut off
two : (c : After-cut-2) → tokens c.args.line.now ≡ c.cut.result.0.now ∷ c.cut-2.result.0.now ∷ tokens_in c.cut-2.result.1
two c =
    c.cut.ensures ∙ ap (λ (l : List (List ℕ)). c.cut.result.0.now ∷ l) (ap tokens_in c.in_ok-rest.was ∙ c.cut-2.ensures)

pub returns-in_err-rest : goal.returns-in_err-rest
unfolding line_of line_named bytes_of line_from
returns-in_err-rest c =
    let w : c.cut.result.1 ≡ None = c.in_err-rest.was in
    record { value = rw (c.cut.ensures, w) c.from_residual.ensures; bytes_after = simp (c.cut.ensures, w, bad_carried, over_none) }

pub returns-in_err-which : goal.returns-in_err-which
unfolding line_of line_named bytes_of line_from for_named
returns-in_err-which c =
    let e = two (goal.at.returns-in_err-which c).After-cut-2 in
    let k : end_of c.cut-2.result.0.now ≡ None = sym c.end_named.ensures ∙ c.in_err-which.was in
    record { value = rw (e, k) c.from_residual-in_err-which.ensures; bytes_after = simp (e, k, bad_carried, over_none) }

pub returns : goal.returns
unfolding line_of line_named bytes_of line_from for_named
returns c =
    let op = c.cut.result.0.now in
    let end = c.cut-2.result.0.now in
    let w = c.in_ok-which.which in
    let e = two (goal.at.returns c).After-cut-2 in
    let k : end_of end ≡ Some w = sym c.end_named.ensures ∙ c.in_ok-which.was in
    let made = command_of op (tokens_in c.cut-2.result.1) in
    record {
      value = rw (e, k) (ap (λ (d : Command). Some (for_end w d)) (c.unwrap_or-command.ensures ∙ ap (λ (o : Option Command). unwrap_or o command.Bad) c.command.ensures.value));
      bytes_after = rw (e, k) (c.command.ensures.bytes_after ∙ ap (λ (l : List ℕ). over l c.args.bytes.now) (sym (carried_or_bad made (last (op ∷ end ∷ tokens_in c.cut-2.result.1)) ∙ last_carried op end c.cut-2.result.1)));
    }
