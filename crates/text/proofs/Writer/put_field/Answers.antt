-- `text::Writer::put_field` meets its contract: the key, and the number after it.
use Rattle.text.proofs.Laws.{appends_more}
use Rattle.text.proofs.Writer.put_field.Goals as goal

pub returns : goal.returns
returns c = appends_more c.put.ensures c.put_decimal.ensures
