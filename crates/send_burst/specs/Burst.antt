-- The burst of one send, step by step of 01, "Send".
use Rattle.std.specs.Prelude.{false, cond, List, ◌++◌, ℕ, ◌+◌, ltb, length, drop}
use Rattle.flit_write.specs.Flits.{idle_flit}
use Rattle.end_state.specs.declared.End.{End}
use Rattle.send_state.specs.Moves.{carried, fallen, unit_at_cursor}
use Rattle.send_replay.specs.Replays.{replay_sent}
use Rattle.send_unit.specs.Units.{unit_sent}

-- below, `run` is the run length of the control flit before the cursor (0 if none): the data flits owed there

-- 1. pending: two replay flits; 2. a unit at the cursor: if it has data, an idle flit goes before it, with data stalled 0; 3. else one idle flit
unfoldable pub burst : End → List ℕ → ℕ → ℕ → ℕ → List ℕ
burst e store run errors information =
    cond e.pending (replay_sent e run errors information ++ replay_sent e run errors information)
    (cond (unit_at_cursor e)
    (cond (ltb 0 run)
    (idle_flit (carried e.untold.0) false run ++ unit_sent e store run (carried (fallen e.untold.0)))
    (unit_sent e store run (carried e.untold.0)))
    (idle_flit (carried e.untold.0) (ltb 0 run) run))

-- the number of flits written
unfoldable pub burst_flits : End → ℕ → ℕ
burst_flits e run = cond e.pending 2 (cond (unit_at_cursor e) (cond (ltb 0 run) (run + 2) 1) 1)

-- the output with flits at its start; its other bytes stay
abbrev pub output_with : List ℕ → List ℕ → List ℕ
output_with flits output = flits ++ drop (length flits) output
