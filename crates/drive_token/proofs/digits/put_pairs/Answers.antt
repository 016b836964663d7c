-- `drive_token::digits::put_pairs` meets its contract: the first i bytes are written.
use mathlib.Core.Path.{◌≡◌, ap, sym, ◌∙◌}
use Prim.Native.Nat.{ℕ, ◌+◌, ◌*◌}
use native.Mathlib.Numerals.{add-one}
use native.Mathlib.Omega.{arith}
use lib.ListN.{get_or, length-set}
use Rattle.drive_token.specs.Tokens.{nibble, pairs}
use Rattle.drive_token.proofs.Figures.{hex_at, length_pairs, pairs_at, over_next, over_end}
use Rattle.drive_token.proofs.digits.put_pairs.Goals as goal

pub overflow_mul-bytes : goal.overflow_mul-bytes
overflow_mul-bytes c = let l = c.loop-i in
    omega (arith, c.nibble.ensures, hex_at c.args.hex.now (2 * l.i) c.requires.hex_value (omega arith))

pub overflow_add-bytes : goal.overflow_add-bytes
overflow_add-bytes c = let l = c.loop-i in
    omega (arith, c.nibble.ensures, c.nibble-in-loop-i.ensures, hex_at c.args.hex.now (2 * l.i) c.requires.hex_value (omega arith), hex_at c.args.hex.now (2 * l.i + 1) c.requires.hex_value (omega arith))

pub loop-i-preserved : goal.loop-i-preserved
loop-i-preserved c = let l = c.loop-i in
    let a = c.args in
    let t = a.hex.now in
    let n = length_pairs t in
    let v : c.nibble.result * 16 + c.nibble-in-loop-i.result ≡ get_or (pairs t) l.i 0 =
    ap (λ (x : ℕ). x * 16 + c.nibble-in-loop-i.result) c.nibble.ensures
    ∙ ap (λ (x : ℕ). nibble (get_or t (2 * l.i) 0) * 16 + x) c.nibble-in-loop-i.ensures
    ∙ sym (pairs_at t l.i (omega arith))
    in record {
      written = rw (l.invariant.written, v, add-one) (over_next (pairs t) a.bytes.now l.i (omega arith) (omega arith));
      same_length = simp length-set l.invariant.same_length;
    }

pub returns : goal.returns
returns c = let l = c.loop-i in
    let t = c.args.hex.now in
    let n = length_pairs t in
    l.invariant.written ∙ over_end (pairs t) c.args.bytes.now l.i (omega arith)
