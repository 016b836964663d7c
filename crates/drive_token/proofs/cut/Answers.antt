-- `drive_token::cut` meets its contract: a token ends at the first space.
use Rattle.std.proofs.Common.{rules, tests, ◌≡◌, ℕ, nat_eq, position, sym, ◌∙◌}
use Rattle.std.proofs.lemmas.Iterator.{YieldsList-from_slice}
use Rattle.std.proofs.lemmas.Iterator.Search.{position_from_yields_List}
use Rattle.drive_token.proofs.Cuts.{cut_found, cut_missed}
use Rattle.drive_token.proofs.cut.Goals as goal
use Rattle.drive_token.proofs.cut.Goals.{After-position}

first_space : (c : After-position) → c.position.result ≡ position (λ (x : ℕ). nat_eq x 32) c.args.s.now
first_space c =
    position_from_yields_List (λ (x : ℕ). nat_eq x 32) _ _ c.position.result c.position.ensures.ran
    (YieldsList-from_slice c.args.s.now (cc))
    (λ x b q k. search (rules, tests))

pub returns-in-Some : goal.returns-in-Some
returns-in-Some c = cut_found c.args.s.now c.in-Some.n (sym c.in-Some.is ∙ first_space (goal.at.returns-in-Some c).After-position)

pub returns-in-None : goal.returns-in-None
returns-in-None c = cut_missed c.args.s.now (sym c.in-None.is ∙ first_space (goal.at.returns-in-None c).After-position)
