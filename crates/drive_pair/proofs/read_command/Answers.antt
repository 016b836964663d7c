-- `drive_pair::read_command` meets its contract: its command, answered, is what the end of the line does.
use native.Mathlib.Omega.{arith}
use Rattle.drive_pair.proofs.Bytes.{read_within, line_read, line_long, bad_within}
use Rattle.drive_pair.proofs.read_command.Goals as goal

pub returns-then-line-gt4096 : goal.returns-then-line-gt4096
returns-then-line-gt4096 c = record { in_range = bad_within; bytes_after = line_long c.args.line.now _ (omega (arith, c.if-line-gt4096.true)) }

pub returns : goal.returns
returns c =
    let r = c.read_line.ensures in
    record {
      in_range = read_within c.args.line.now r.value;
      bytes_after = line_read c.args.line.now c.args.bytes.now (omega (arith, c.if-line-gt4096.false)) r.value r.bytes_after;
    }
