-- `drive_token::digits::number` meets its contract: the rest of the digits goes on with the number so far.
use mathlib.Core.Bool.{◌&&◌}
use mathlib.Core.Path.{◌≡◌, refl, ap, sym, ◌∙◌}
use Prim.Native.Nat.{suc, ◌+◌, ◌-◌, ◌*◌, ◌<◌}
use native.Mathlib.Numerals.{add-one}
use native.Mathlib.Omega.{arith}
use lib.Dec.{leb}
use lib.ListN.{length, drop, get_or, drop_of_length-le}
use lib.Seq.{drop-cons}
use borrow.Author.Tests.{leb-true}
use Rattle.std.proofs.Common.{Some}
use Rattle.std.proofs.lemmas.Option.{cond_some}
use Rattle.end_state.proofs.Tests.{and_l, and_r}
use Rattle.drive_token.specs.Tokens.{is_digit, all_digits, value_from}
use Rattle.drive_token.proofs.Cuts.{cond_none}
use Rattle.drive_token.proofs.Figures.{no_number, stops, digits_next, value_next, value_start, whole_number, value_end}
use Rattle.drive_token.proofs.digits.number.Goals as goal

pub returns-then-is_empty-clause-value : goal.returns-then-is_empty-clause-value
returns-then-is_empty-clause-value c = let t = c.args.token.now in
    let z : length t ≡ 0 = grind arith in
    simp (no_number c.args.max t z)

pub loop-c-init : goal.loop-c-init
loop-c-init c = record { at_most = omega arith; digits = refl; so_far = value_start _ }

pub returns-in_err-value-clause-value : goal.returns-in_err-value-clause-value
returns-in_err-value-clause-value c = let a = c.args in
    let l = c.loop-c in
    let t = a.token.now in
    let h : l.c-index < length t = omega arith in
    let d = drop-cons t l.c-index 0 h in
    let e =
    stops a.max l.value (get_or t l.c-index 0) t (drop (suc l.c-index) t) (l.invariant.digits ∙ ap all_digits d)
    (l.invariant.so_far ∙ ap (value_from l.value) d)
    (cond_none _ _ (sym c.in_err-value.ensures))
    in
    rw e c.from_residual.ensures

pub loop-c-preserved : goal.loop-c-preserved
loop-c-preserved c = let a = c.args in
    let l = c.loop-c in
    let t = a.token.now in
    let x = get_or t l.c-index 0 in
    let h : l.c-index < length t = omega arith in
    let d = drop-cons t l.c-index 0 h in
    let next = l.value * 10 + (x - 48) in
    let s = cond_some (is_digit x && leb next a.max) next c.in_ok-value.value (sym c.in_ok-value.ensures) in
    record {
      at_most = omega (arith, s.1, leb-true next a.max (and_r (is_digit x) (leb next a.max) s.0));
      digits = l.invariant.digits ∙ ap all_digits d ∙ rw add-one (digits_next x (drop (suc l.c-index) t) (and_l (is_digit x) (leb next a.max) s.0));
      so_far = l.invariant.so_far ∙ ap (value_from l.value) d ∙ rw (add-one, sym s.1) (value_next l.value x (drop (suc l.c-index) t));
    }

pub returns-clause-value : goal.returns-clause-value
returns-clause-value c = let a = c.args in
    let l = c.loop-c in
    let t = a.token.now in
    let some : 0 < length t = grind arith in
    let d = drop_of_length-le t {i = l.c-index} (omega arith) in
    let v = l.invariant.so_far ∙ ap (value_from l.value) d in
    let e = whole_number a.max l.value t some l.invariant.at_most (l.invariant.digits ∙ ap all_digits d) v in
    rw e (ap Some (sym (v ∙ value_end l.value)))
