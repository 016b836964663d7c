-- `drive_token::digits::offset` meets its contract: a number as it is, more digits as the largest.
use Rattle.std.proofs.Common.{rules, tests, ◌≡◌, true, false, Bool, ◌&&◌, ap, ◌∙◌, sym, Some, Option, ℕ, unwrap_or, length}
use Rattle.std.proofs.lemmas.Iterator.{YieldsList-from_slice}
use Rattle.std.proofs.lemmas.Iterator.Search.{all_from_yields_List}
use lib.Dec.{ltb}
use Rattle.drive_token.specs.Tokens.{is_decimal, is_digit, all_digits}
use Rattle.drive_token.proofs.Figures.{offset_told}
use Rattle.drive_token.proofs.digits.offset.Goals as goal
use Rattle.drive_token.proofs.digits.offset.Goals.{After-all}

are_all : (c : After-all) → c.all.result ≡ all_digits c.args.token.now
unfolding all_digits
are_all c =
    all_from_yields_List is_digit _ _ c.all.result c.all.ensures.ran (YieldsList-from_slice c.args.token.now (cc))
    (λ x b q k. search (rules, tests))

pub returns-then-token-all : goal.returns-then-token-all
returns-then-token-all c = let t = c.args.token.now in
    let d : is_decimal t ≡ true =
    ap (λ (b : Bool). ltb 0 (length t) && b) (sym (are_all (goal.at.returns-then-token-all c).After-all)) ∙ c.if-token-all.true
    in
    simp d (ap Some (c.unwrap_or.ensures ∙ ap (λ (o : Option ℕ). unwrap_or o 18446744073709551615) c.number.ensures.value ∙ offset_told t d))

pub returns-else-token-all : goal.returns-else-token-all
returns-else-token-all c = let t = c.args.token.now in
    let d : is_decimal t ≡ false =
    ap (λ (b : Bool). ltb 0 (length t) && b) (sym (are_all (goal.at.returns-else-token-all c).After-all)) ∙ c.if-token-all.false
    in
    simp d
