-- `drive_token::digits::are_pairs` meets its contract, test by test.
use Rattle.std.proofs.Common.{rules, tests, ◌≡◌, ℕ, Bool, ◌&&◌, ◌%◌, ap, length}
use Rattle.std.proofs.lemmas.Iterator.{YieldsList-from_slice}
use Rattle.std.proofs.lemmas.Iterator.Search.{all_from_yields_List}
use lib.Dec.{leb, ltb, eqb}
use Rattle.std.specs.List.{list_all}
use Rattle.drive_token.specs.Tokens.{nibble, all_hex, digit_pairs}
use Rattle.drive_token.proofs.digits.are_pairs.Goals as goal

pub returns : goal.returns
unfolding digit_pairs all_hex
returns c = let t = c.args.hex.now in
    let e : c.all.result ≡ list_all (λ (x : ℕ). ltb (nibble x) 16) t =
    all_from_yields_List (λ (x : ℕ). ltb (nibble x) 16) _ _ c.all.result c.all.ensures.ran (YieldsList-from_slice t (cc)) (λ x b q k. search (rules, tests))
    in
    ap (λ (b : Bool). ltb 0 (length t) && eqb (length t % 2) 0 && leb (length t) 4000 && b) e
