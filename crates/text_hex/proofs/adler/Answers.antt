-- `text_hex::adler` meets its contract: the sums so far, reduced or not, and the bytes left give the checksum of all.
use native.Mathlib.Omega.{arith}
use mathlib.Core.Path.{refl}
use Rattle.text_hex.specs.Dump.{adler as adler_of}
use Rattle.text_hex.proofs.Laws.{sums_go_on, sums_end}
use Rattle.text_hex.proofs.adler.Goals as goal
use Rattle.text_hex.proofs.adler.Goals.{then-b-ge-LARGE, else-b-ge-LARGE}

pub loop-byte-init : goal.loop-byte-init
unfolding adler_of
loop-byte-init c = (omega arith, omega arith, refl)

pub loop-byte-preserved : goal.loop-byte-preserved
loop-byte-preserved c =
    let l = c.loop-byte in
    let j = c.if-b-ge-LARGE in
    let byte = c.type_inv.bytes l.byte-index in
    let more = sums_go_on l.a l.b j.a j.b c.args.bytes.now l.byte-index in
    elim j.branch [
      | then-b-ge-LARGE w ↦ (omega arith, omega arith, more (omega arith) (omega arith) (omega arith) l.invariant.2)
      | else-b-ge-LARGE w ↦ (omega arith, omega arith, more (omega arith) (omega arith) (omega arith) l.invariant.2)
    ]

pub returns : goal.returns
returns c = let l = c.loop-byte in
    (sums_end l.a l.b c.args.bytes.now l.byte-index (omega arith) l.invariant.2, omega arith)
