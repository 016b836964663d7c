-- The replay flits of one send (01, "Send").
use Rattle.std.specs.Prelude.{List, ℕ, ltb}
use Rattle.flit_number.specs.Numbers.{width, last_received, acknowledge_for}
use Rattle.flit_write.specs.Flits.{replay_flit}
use Rattle.end_state.specs.State.{is_wait}
use Rattle.end_state.specs.declared.End.{End}

-- 1. pending: two replay flits, alike; `run` is the run length of the control flit before the cursor (0 if none)
unfoldable pub replay_sent : End → ℕ → ℕ → ℕ → List ℕ
replay_sent e run errors information =
    replay_flit
    (record {
      information = information;
      previous = record { 0 = run };
      start = e.cursor;
      last = record { 0 = acknowledge_for last_received width e.wanted.0 };
      errors = errors;
      stalled = ltb 0 run;
      nack = is_wait e.mode;
    })
