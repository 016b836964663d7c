-- `crc::flit_right` meets its contract: the two tests are that the flit is inside, and the part that is lent is 64 bytes long.
use mathlib.Core.Path.{◌∙◌, ap, sym}
use mathlib.Core.Bool.{Bool, ◌&&◌}
use Prim.Native.Nat.{◌+◌, ◌-◌}
use native.Mathlib.Omega.{arith}
use lib.ListN.{length, take, drop, length-drop}
use lib.Seq.{take_all}
use borrow.Author.Tests.{le-leb, lt-leb}
use Rattle.crc.specs.Unit.{right, flit_right}
use Rattle.crc.proofs.flit_right.Goals as goal

pub returns-in_default : goal.returns-in_default
unfolding flit_right
returns-in_default c = let s = c.args.s.now in
    let at = c.args.at in
    sym (ap (λ (b : Bool). b && right (take 64 (drop at s))) (lt-leb (at + 64) (length s) (omega (arith, c.in_default.ensures.lookup))))

pub returns-in_default-get : goal.returns-in_default-get
unfolding flit_right
returns-in_default-get c = let s = c.args.s.now in
    let at = c.args.at in
    let k = c.in-Some.ensures.lookup in
    sym (ap (λ (b : Bool). b && right (take 64 (drop at s))) (lt-leb (at + 64) (length s) (omega (arith, c.in_default-get.ensures.lookup, k.0.3))))

pub returns : goal.returns
unfolding flit_right
returns c = let s = c.args.s.now in
    let at = c.args.at in
    let k = c.in-Some.ensures.lookup in
    let l = c.in-Some-get.ensures.lookup in
    c.right.ensures.value ∙ ap right (l.0.2 ∙ ap (take 64) (k.0.2 ∙ take_all (length s - at) (drop at s) (omega (arith, length-drop at s))))
    ∙ sym (ap (λ (b : Bool). b && right (take 64 (drop at s))) (le-leb (at + 64) (length s) (omega (arith, l.0.1, k.0.3))))
