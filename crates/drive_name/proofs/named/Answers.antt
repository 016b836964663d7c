-- `drive_name::named` meets its contract: no word before the loop's is the token.
use Rattle.std.proofs.Common.{◌≡◌, ◌<◌, refl, true, false, sym, ◌∙◌, arith, length, drop-cons, add-one}
use lib.ListN.{drop_of_length-le}
use Rattle.drive_token.specs.Tokens.{same}
use Rattle.drive_name.proofs.named.Goals as goal

pub returns-then-is : goal.returns-then-is
returns-then-is g c = let t = c.args.token.now in
    let l = c.loop-word in
    let p = c.loop-word-item in
    let h : l.word-index < length c.args.table.now = omega arith in
    let e : same t p.result.0.now ≡ true = rw (← c.as_bytes.ensures.value, ← c.is.ensures) c.if-is.true in
    sym (l.invariant ∙ rw (drop-cons c.args.table.now l.word-index p.result h, sym p.is) (simp e))

pub loop-word-preserved : goal.loop-word-preserved
loop-word-preserved g c = let t = c.args.token.now in
    let l = c.loop-word in
    let p = c.loop-word-item in
    let h : l.word-index < length c.args.table.now = omega arith in
    let e : same t p.result.0.now ≡ false = rw (← c.as_bytes.ensures.value, ← c.is.ensures) c.if-is.false in
    l.invariant ∙ rw (drop-cons c.args.table.now l.word-index p.result h, sym p.is, add-one) (simp e)

pub returns : goal.returns
returns g c = let l = c.loop-word in
    let e = drop_of_length-le c.args.table.now {i = l.word-index} (omega arith) in
    rw (l.invariant, e) refl
