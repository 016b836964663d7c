-- `text_hex::put_hex` meets its contract: the text of the library is the bytes in hexadecimal.
use mathlib.Core.Path.{refl}
use native.Mathlib.Omega.{arith}
use borrow.Author.Tests.{true-eqb, false-eqb}
use Rattle.text.proofs.Laws.{appends_as, puts_as, puts_copied}
use Rattle.text_hex.specs.Dump.{hex_digits}
use Rattle.text_hex.proofs.Laws.{hex_none, hex_some, digits_are, digits_short}
use Rattle.text_hex.proofs.put_hex.Goals as goal

pub returns-then-is_empty : goal.returns-then-is_empty
returns-then-is_empty c = appends_as (hex_none c.args.bytes.now (true-eqb _ _ c.if-is_empty.ensures)) c.put.ensures

pub returns-else-is_empty : goal.returns-else-is_empty
returns-else-is_empty c =
    let w = c.args.writer.now in
    let bytes = c.args.bytes.now in
    let written = rw c.unwrap.ensures at c.encode_to_slice.ensures.written in
    let same = digits_are bytes (λ i. let byte = c.type_inv.bytes i in omega arith) in
    record {
      puts = rw (written, same) (puts_as (hex_some bytes (false-eqb _ _ c.if-is_empty.ensures)) (puts_copied w.out.now (hex_digits bytes) w.at _ (omega (arith, digits_short bytes)) (omega (arith, digits_short bytes)) (omega (arith, c.requires))));
      buffer = refl;
    }
