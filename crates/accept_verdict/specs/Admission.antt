-- What accept refuses (01, "Refusals by number").
use Rattle.std.specs.Prelude.{Bool, not, ◌&&◌, cond, List, ℕ, ◌+◌, ◌-◌, ◌/◌, ◌%◌, ltb, leb, eqb, length, drop, Result, Ok, Err}
use Rattle.flit_read.specs.Fields.{acceptable}
use Rattle.end_state.specs.Refusals.{store_is, sound, is_down, last_run}
use Rattle.end_state.specs.declared.End.{End}
use Rattle.end_state.specs.declared.Refusal.{Refusal}
use Rattle.end_state.specs.declared.Refusal.TheVariants as refusal

-- 3 SHAPE: unit length 0, over 576 or not a multiple of 64
unfoldable pub unit_shaped : ℕ → Bool
unit_shaped bytes = ltb 0 bytes && leb bytes 576 && eqb (bytes % 64) 0

-- a unit's flits, and its control flit, which is the last
abbrev pub flits_of : List ℕ → ℕ
flits_of unit = length unit / 64

abbrev pub control_of : List ℕ → List ℕ
control_of unit = drop (length unit - 64) unit

-- the refusals of accept, in the table's order
unfoldable pub accept_verdict : End → List ℕ → List ℕ → Result (Unit {0}) Refusal
accept_verdict e store unit =
    cond (not (store_is e (length store))) (Err refusal.Store)
    (cond (not (sound e store)) (Err refusal.State)
    (cond (not (unit_shaped (length unit))) (Err refusal.Shape)
    (cond (is_down e.mode) (Err refusal.Down)
    (cond (not (eqb (flits_of unit - 1) (last_run e store))) (Err refusal.Run)
    (cond (not (acceptable (control_of unit))) (Err refusal.Field)
    (cond (ltb e.capacity.0 (e.held.0 + flits_of unit)) (Err refusal.Full)
    (Ok tt)))))))
