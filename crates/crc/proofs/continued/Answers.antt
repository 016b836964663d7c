-- `crc::continued` meets its contract: what the register makes of the bytes to come is what it made of all of them at first.
use mathlib.Core.Path.{◌≡◌, ◌∙◌, ap, ap₂, sym}
use Prim.Native.Nat.{ℕ}
use native.Mathlib.Numerals.{add-one}
use lib.ListN.{length, drop}
use lib.Seq.{drop-cons, drop-length}
use borrow.Author.Rules.{rules}
use native.Mathlib.Omega.{arith}
use Rattle.crc.specs.Register.{continued}
use Rattle.crc.proofs.continued.Goals as goal

pub loop-b-preserved : goal.loop-b-preserved
loop-b-preserved c = let s = c.args.part.now in
    let i = c.loop-b.b-index in
    let left = c.loop-b.left in (
      omega arith,
      ap₂ continued c.step-left.ensures (ap (λ (n : ℕ). drop n s) (add-one i))
          ∙ sym (ap (continued left) (drop-cons s i 0 (search rules))) ∙ c.loop-b.invariant.1,
    )

pub returns : goal.returns
returns c = let s = c.args.part.now in
    let left = c.loop-b.left in
    let i = c.loop-b.b-index in
    let e : i ≡ length s = omega arith in
    sym (ap (continued left) (ap (λ (n : ℕ). drop n s) e ∙ drop-length s)) ∙ c.loop-b.invariant.1
