-- `text::Writer::put_byte` meets its contract.
use mathlib.Core.Path.{refl}
use Rattle.text.proofs.Laws.{puts_byte}
use Rattle.text.proofs.Writer.put_byte.Goals as goal

pub returns : goal.returns
returns c = record { puts = puts_byte c.args.self.now.out.now c.args.self.now.at c.args.byte; buffer = refl }
