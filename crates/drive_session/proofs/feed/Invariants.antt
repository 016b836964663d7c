use Rattle.std.proofs.Common.{◌≡◌, ◌-◌, length}
use Rattle.drive_pair.specs.Pair.{Goes}
use Rattle.drive_session.specs.Drive.{session, taken}
use Rattle.drive_session.proofs.feed.Given as goal

abbrev pub invariant-loop-used : goal.invariant-loop-used
invariant-loop-used l = record {
  goes : Goes (session l.initial.pair l.input l.used) l.pair l.initial.writer l.writer;
  used_value : l.used ≡ taken l.initial.pair l.input (length l.initial.writer.out.now - l.initial.writer.at) l.used;
}
