-- `send_burst::write_burst` meets its contract: in each case the output begins with the burst.
use mathlib.Core.Bool.{false}
use mathlib.Core.Path.{refl, sym, ap₂, ◌∙◌}
use Prim.Native.Nat.{◌+◌, ◌*◌, ◌<◌}
use native.Mathlib.Omega.{arith}
use lib.ListN.{length-append}
use Rattle.end_state.specs.Refusals.{cursor_at}
use Rattle.send_state.specs.Moves.{carried, fallen}
use Rattle.send_unit.specs.Units.{unit_sent}
use Rattle.send_burst.proofs.Cases.{burst_replays, burst_idle, burst_data, burst_control}
use Rattle.send_unit.proofs.Lengths.{length_unit}
use Rattle.send_replay.proofs.Lengths.{length_idle, length_replays}
use Rattle.send_burst.proofs.Parts.{put_rest, begins}
use Rattle.send_burst.proofs.Ready.{ready}
use Rattle.send_burst.proofs.write_burst.Goals as goal

pub write_replays-requires : goal.write_replays-requires
write_replays-requires c =
    let y = ready _ _ _ c.requires.state c.requires.run_value in
    omega arith

pub returns-then-e : goal.returns-then-e
returns-then-e c =
    let a = c.args in
    let r = a.ring in
    let b = burst_replays r.end.now r.store.now a.run.0 a.errors a.information c.if-e.true in
    record { result_value = sym b.counted; output_after = begins _ _ _ _ 128 b.is (length_replays r.end.now _ _ _) c.write_replays.ensures }

pub write_idle-requires : goal.write_idle-requires
write_idle-requires c =
    let y = ready _ _ _ c.requires.state c.requires.run_value in
    omega arith

pub returns-then-e-cursor : goal.returns-then-e-cursor
returns-then-e-cursor c =
    let a = c.args in
    let r = a.ring in
    let b = burst_idle r.end.now r.store.now a.run.0 a.errors a.information c.if-e.false (omega (arith, c.flits_between-cursor.ensures)) in
    record {
      result_value = sym b.counted;
      output_after = begins _ _ _ _ 64 b.is (length_idle _ _ _) (c.write_idle.ensures ∙ simp c.carried-acks.ensures.result_value);
    }

pub write_idle-requires-then-run-gt0 : goal.write_idle-requires-then-run-gt0
write_idle-requires-then-run-gt0 c =
    let y = ready _ _ _ c.requires.state c.requires.run_value in
    omega arith

pub write_unit-requires : goal.write_unit-requires
write_unit-requires c =
    let y = ready _ _ _ c.requires.state c.requires.run_value in
    record { acks_bound = omega arith; run_bound = (y.inside (omega (arith, c.flits_between-cursor.ensures)), y.small, omega arith) }

pub overflow_add-result : goal.overflow_add-result
overflow_add-result c =
    let y = ready _ _ _ c.requires.state c.requires.run_value in
    omega arith

pub write_unit-requires-else-run-gt0 : goal.write_unit-requires-else-run-gt0
write_unit-requires-else-run-gt0 c =
    let y = ready _ _ _ c.requires.state c.requires.run_value in
    record { acks_bound = omega arith; run_bound = (y.inside (omega (arith, c.flits_between-cursor.ensures)), y.small, omega arith) }

pub returns-then-run-gt0 : goal.returns-then-run-gt0
returns-then-run-gt0 c =
    let a = c.args in
    let r = a.ring in
    let y = ready _ _ _ c.requires.state c.requires.run_value in
    let h : cursor_at r.end.now < r.end.now.held.0 = omega (arith, c.flits_between-cursor.ensures) in
    let b = burst_data r.end.now r.store.now a.run.0 a.errors a.information c.if-e.false h c.if-run-gt0.true in
    let i = length_idle (carried r.end.now.untold.0) false a.run.0 in
    record {
      result_value = sym b.counted;
      output_after = begins _ _ _ _ (64 + (a.run.0 * 64 + 64)) b.is
          (length-append _ _ ∙ ap₂ ◌+◌ i (length_unit r.end.now r.store.now a.run.0 _ r.inside r.whole (y.inside h)))
          (put_rest _ (unit_sent r.end.now r.store.now a.run.0 (carried (fallen r.end.now.untold.0))) a.output.now _ _ _ (a.run.0 * 64 + 64) i (c.write_idle-then-run-gt0.ensures ∙ simp c.carried-acks.ensures.result_value) refl
          (c.write_unit.ensures ∙ simp (c.carried-left.ensures.result_value, c.fallen.ensures)));
    }

pub returns-else-run-gt0 : goal.returns-else-run-gt0
returns-else-run-gt0 c =
    let a = c.args in
    let r = a.ring in
    let y = ready _ _ _ c.requires.state c.requires.run_value in
    let h : cursor_at r.end.now < r.end.now.held.0 = omega (arith, c.flits_between-cursor.ensures) in
    let b = burst_control r.end.now r.store.now a.run.0 a.errors a.information c.if-e.false h c.if-run-gt0.false in
    record {
      result_value = sym b.counted;
      output_after = begins _ _ _ _ (a.run.0 * 64 + 64) b.is (length_unit r.end.now r.store.now a.run.0 _ r.inside r.whole (y.inside h))
          (c.write_unit-else-run-gt0.ensures ∙ simp c.carried-acks.ensures.result_value);
    }
