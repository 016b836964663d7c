-- `text::Writer::put_decimal` meets its contract: the text of the library is the number in decimal.
use mathlib.Core.Path.{sym, ap, ◌∙◌}
use native.Mathlib.Omega.{arith}
use lib.ListN.{length}
use Rattle.text.proofs.Laws.{decimal_is, appends_as}
use Rattle.text.proofs.Writer.put_decimal.Goals as goal

pub put-requires : goal.put-requires
put-requires c = omega (arith, c.requires, ap length (c.as_bytes.ensures.value ∙ c.format.ensures.text ∙ sym (decimal_is c.args.n (omega arith))))

pub returns : goal.returns
returns c = appends_as (c.as_bytes.ensures.value ∙ c.format.ensures.text ∙ sym (decimal_is c.args.n (omega arith))) c.put.ensures
