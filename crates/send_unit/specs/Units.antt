-- A unit as it is sent (01, Send 2). `run` is the run length of the control flit before the cursor (0 if none): the data flits owed
-- there.
use Rattle.std.specs.Prelude.{List, [], ◌++◌, ℕ, zero, suc, ◌+◌, ltb}
use Rattle.crc.specs.Seal.{sealed}
use Rattle.flit_read.specs.Bytes.{read}
use Rattle.flit_read.specs.Fields.{content, run_length}
use Rattle.flit_write.specs.Flits.{control_told}
use Rattle.end_state.specs.Ring.{flit_at, ring_place, stored}
use Rattle.end_state.specs.Refusals.{cursor_at}
use Rattle.end_state.specs.declared.End.{End}

-- the flits of the unit at the cursor: its data flits, and its control flit, as they are stored
unfoldable pub stored_flits : ℕ → ℕ → List ℕ → ℕ → ℕ → List ℕ
stored_flits places first store from zero = []
stored_flits places first store from (suc n) = stored_flits places first store from n ++ flit_at store (ring_place places first (from + n))

abbrev pub control_at_cursor : End → List ℕ → ℕ → List ℕ
control_at_cursor e store run = stored e store (cursor_at e + run)

-- the unit as it is sent: data is owed after its control flit exactly when that says so
unfoldable pub unit_sent : End → List ℕ → ℕ → ℕ → List ℕ
unit_sent e store run acks =
    sealed
    (stored_flits e.capacity.0 e.first store (cursor_at e) run
    ++ control_told (control_at_cursor e store run) acks (ltb 0 (read run_length (content (control_at_cursor e store run)))))
