-- `drive_session::feed` meets its contract: after some turns, what is kept and the output are as after so many bytes.
use Rattle.std.proofs.Common.{arith, sym, length, ◌-◌}
use Rattle.drive_session.proofs.Steps.{goes_none, goes_on}
use Rattle.drive_session.proofs.Taken.{none_taken, taken_next, taken_end}
use Rattle.drive_session.proofs.feed.Goals as goal

pub loop-used-init : goal.loop-used-init
loop-used-init c =
    let a = c.args in
    record {
      goes = goes_none a.pair.now a.input.now a.writer.now (omega (arith, c.requires));
      used_value = sym (none_taken a.pair.now a.input.now (length a.writer.now.out.now - a.writer.now.at));
    }

pub returns-then-most-writer-clause-used_value : goal.returns-then-most-writer-clause-used_value
returns-then-most-writer-clause-used_value c =
    let a = c.args in
    let l = c.loop-used in
    taken_end a.pair.now a.input.now (length a.writer.now.out.now - a.writer.now.at) l.used l.invariant.used_value
    (omega (arith, c.requires, c.if-most-writer.true, l.invariant.goes.lines.puts)) l.auto.used-end

pub loop-used-preserved : goal.loop-used-preserved
loop-used-preserved c =
    let a = c.args in
    let l = c.loop-used in
    record {
      goes = goes_on a.pair.now a.input.now l.used l.invariant.goes c.step.ensures;
      used_value =
          taken_next a.pair.now a.input.now (length a.writer.now.out.now - a.writer.now.at) l.used l.invariant.used_value
          (omega (arith, c.requires, c.if-most-writer.false, l.invariant.goes.lines.puts));
    }
