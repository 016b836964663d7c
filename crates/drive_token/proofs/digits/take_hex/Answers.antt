-- `drive_token::digits::take_hex` meets its contract, by the tests.
use mathlib.Core.Bool.{true, false}
use mathlib.Core.Path.{◌≡◌, ap, sym, ◌∙◌}
use Rattle.std.proofs.Common.{Some}
use Rattle.drive_token.specs.Tokens.{is_bytes}
use Rattle.drive_token.proofs.Figures.{dash_bytes, dash_none, other_bytes, pairs_hex, pairs_most, length_pairs, over_none}
use Rattle.drive_token.proofs.digits.take_hex.Goals as goal

pub returns-then-is : goal.returns-then-is
returns-then-is c = let t = c.args.hex.now in
    let e = sym c.is.ensures ∙ c.if-is.true in
    let b = dash_bytes t e in
    let n = dash_none t e in
    record { count = simp (b, n); bytes_after = simp (b, n, over_none) }

pub returns-then-not-are_pairs : goal.returns-then-not-are_pairs
returns-then-not-are_pairs c = let t = c.args.hex.now in
    let b : is_bytes t ≡ false =
    other_bytes t (sym c.is.ensures ∙ c.if-is.false) ∙ sym c.are_pairs.ensures ∙ c.if-not-are_pairs.true
    in
    record { count = simp b; bytes_after = simp (b, over_none) }

pub put_pairs-requires : goal.put_pairs-requires
put_pairs-requires c = let t = c.args.hex.now in
    let h = sym c.are_pairs.ensures ∙ c.if-not-are_pairs.false in
    record { hex_value = pairs_hex t h; hex_len_bound = (pairs_most t h, c.requires) }

pub returns : goal.returns
returns c = let t = c.args.hex.now in
    let b : is_bytes t ≡ true =
    other_bytes t (sym c.is.ensures ∙ c.if-is.false) ∙ sym c.are_pairs.ensures ∙ c.if-not-are_pairs.false
    in
    record { count = simp b (ap Some (sym (length_pairs t))); bytes_after = simp b c.put_pairs.ensures }
