-- `flit_read::read::acceptable` meets its contract: bits 63:18 are all of the content above bit 17.
use native.Mathlib.Omega.{arith}
use Rattle.flit_read.specs.Fields.{content, acceptable}
use lib.Dec.{leb, eqb}
use native.Mathlib.Nat.{mod-eq_of_lt}
use Prim.Native.Nat.{ℕ, ◌/◌, ◌%◌, ◌^◌}
use mathlib.Core.Path.{◌≡◌, sym, ap, ap₂, ◌∙◌}
use mathlib.Core.Bool.{◌&&◌}
use Rattle.flit_read.proofs.read.acceptable.Goals as goal

pub returns : goal.returns
unfolding acceptable
returns c = let s = c.args.flit.now in
    let x = c.content-c.result in
    let e : x ≡ content s = c.content-c.ensures in
    let low : x % 16 ≡ content s / 1 % 16 = omega arith in
    let high : x / 2 ^ 18 % 2 ^ 46 ≡ content s / 2 ^ 18 % 2 ^ 46 = ap (λ (y : ℕ). y / 2 ^ 18 % 2 ^ 46) e in
    ap₂ (λ (a b : ℕ). leb a 8 && eqb b 0) low (sym (mod-eq_of_lt (omega arith)) ∙ high)
