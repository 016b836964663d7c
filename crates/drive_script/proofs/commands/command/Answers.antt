-- `drive_script::commands::command` meets its contract, token by token.
use Rattle.std.proofs.Common.{refl, ◌≡◌, ℕ, List, ◌∷◌, ap, ◌∙◌}
use Rattle.drive_token.specs.Tokens.{tokens_in, last}
use Rattle.drive_token.proofs.Figures.{over_none}
use Rattle.drive_script.specs.Script.{command_of}
use Rattle.drive_script.proofs.Lines.{none_carried, ticket_none, three_none, four_none}
use Rattle.drive_script.proofs.commands.command.Goals as goal
use Rattle.drive_script.proofs.commands.command.Goals.{After-cut, After-cut-2, After-cut-3}

-- the first token is cut off, then the second and the third
one : (c : After-cut) → tokens_in c.args.arguments ≡ c.cut.result.0.now ∷ tokens_in c.cut.result.1
one c = ap tokens_in c.in-Some.is ∙ c.cut.ensures

two : (c : After-cut-2) → tokens_in c.args.arguments ≡ c.cut.result.0.now ∷ c.cut-2.result.0.now ∷ tokens_in c.cut-2.result.1
two c =
    ap tokens_in c.in-Some.is ∙ c.cut.ensures
    ∙ ap (λ (l : List (List ℕ)). c.cut.result.0.now ∷ l) (ap tokens_in c.in-Some-more.is ∙ c.cut-2.ensures)

three : (c : After-cut-3)
    → tokens_in c.args.arguments ≡ c.cut.result.0.now ∷ c.cut-2.result.0.now ∷ c.cut-3.result.0.now ∷ tokens_in c.cut-3.result.1
three c =
    ap tokens_in c.in-Some.is ∙ c.cut.ensures
    ∙ ap (λ (l : List (List ℕ)). c.cut.result.0.now ∷ l) (ap tokens_in c.in-Some-more.is ∙ c.cut-2.ensures)
    ∙ ap (λ (l : List (List ℕ)). c.cut.result.0.now ∷ c.cut-2.result.0.now ∷ l) (ap tokens_in c.in-Some-more-2.is ∙ c.cut-3.ensures)

pub returns-in_default-clause-bytes_after : goal.returns-in_default-clause-bytes_after
unfolding command_of
returns-in_default-clause-bytes_after c = simp (c.in_default.is, ticket_none, over_none)

pub returns-in_default-more-clause-bytes_after : goal.returns-in_default-more-clause-bytes_after
unfolding last
returns-in_default-more-clause-bytes_after c =
    let e = one (goal.at.returns-in_default-more-clause-bytes_after c).After-cut in
    rw (e, c.in_default-more.is) c.one_argument.ensures.bytes_after

pub returns-in_default-more-2-clause-bytes_after : goal.returns-in_default-more-2-clause-bytes_after
unfolding last
returns-in_default-more-2-clause-bytes_after c =
    let e = two (goal.at.returns-in_default-more-2-clause-bytes_after c).After-cut-2 in
    rw (e, c.in_default-more-2.is) c.two_arguments.ensures.bytes_after

pub returns-in-None-clause-bytes_after : goal.returns-in-None-clause-bytes_after
unfolding command_of
returns-in-None-clause-bytes_after c =
    let e = three (goal.at.returns-in-None-clause-bytes_after c).After-cut-3 in
    simp (e, c.in-None.is, three_none, over_none)

pub returns-in-Some-more-3 : goal.returns-in-Some-more-3
returns-in-Some-more-3 c =
    let e = three (goal.at.returns-in-Some-more-3 c).After-cut-3 in
    let f = four_none c.args.op.now c.cut.result.0.now c.cut-2.result.0.now c.cut-3.result.0.now c.in-Some-more-3.field-0.now in
    record { value = rw (e, c.in-Some-more-3.is, f) refl; bytes_after = simp (e, c.in-Some-more-3.is, f, none_carried, over_none) }
