-- `text::Writer::put` meets its contract.
use mathlib.Core.Path.{refl}
use native.Mathlib.Omega.{arith}
use Rattle.text.proofs.Laws.{puts_copied}
use Rattle.text.proofs.Writer.put.Goals as goal

pub returns : goal.returns
returns c =
    record {
      puts = rw c.copy_from_slice.ensures.after (puts_copied c.args.self.now.out.now c.args.text.now c.args.self.now.at _ (omega arith) refl c.requires);
      buffer = refl;
    }
