-- The burst and how many flits it is, case by case of what waits.
use mathlib.Core.Bool.{true, false}
use mathlib.Core.List.{List, ◌++◌}
use mathlib.Core.Path.{◌≡◌}
use Prim.Native.Nat.{ℕ, ◌+◌, ◌<◌, ◌≤◌}
use borrow.Author.Tests.{lt-ltb, le-ltb}
use lib.Dec.{ltb}
use Rattle.flit_write.specs.Flits.{idle_flit}
use Rattle.end_state.specs.Refusals.{cursor_at}
use Rattle.end_state.specs.declared.End.{End}
use Rattle.send_state.specs.Moves.{carried, fallen}
use Rattle.send_replay.specs.Replays.{replay_sent}
use Rattle.send_unit.specs.Units.{unit_sent}
use Rattle.send_burst.specs.Burst.{burst, burst_flits}

module _ (e : End) (store : List ℕ) (run errors information : ℕ) where
  pub record Burst (flits : List ℕ) (count : ℕ) : Type 0 where
    pub is : burst e store run errors information ≡ flits
    pub counted : burst_flits e run ≡ count

  -- a replay pair is pending
  pub burst_replays : e.pending ≡ true → Burst (replay_sent e run errors information ++ replay_sent e run errors information) 2
  unfolding burst burst_flits
  burst_replays h = record { is = simp h; counted = simp h }

  -- none is, and no unit waits
  pub burst_idle : e.pending ≡ false → e.held.0 ≤ cursor_at e → Burst (idle_flit (carried e.untold.0) (ltb 0 run) run) 1
  unfolding burst burst_flits
  burst_idle h w =
      let v = le-ltb (cursor_at e) e.held.0 w in
      record { is = simp (h, v); counted = simp (h, v) }

  -- a unit with data waits, or one without
  pub burst_data : e.pending ≡ false → cursor_at e < e.held.0 → 0 < run
      → Burst (idle_flit (carried e.untold.0) false run ++ unit_sent e store run (carried (fallen e.untold.0))) (run + 2)
  unfolding burst burst_flits
  burst_data h w d =
      let v = lt-ltb (cursor_at e) e.held.0 w in
      let u = lt-ltb 0 run d in
      record { is = simp (h, v, u); counted = simp (h, v, u) }

  pub burst_control : e.pending ≡ false → cursor_at e < e.held.0 → run ≤ 0 → Burst (unit_sent e store run (carried e.untold.0)) 1
  unfolding burst burst_flits
  burst_control h w d =
      let v = lt-ltb (cursor_at e) e.held.0 w in
      let u = le-ltb 0 run d in
      record { is = simp (h, v, u); counted = simp (h, v, u) }
