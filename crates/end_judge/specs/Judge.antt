-- What every operation but start refuses first, in the table's order (01, "Refusals by number"): 1 STORE, 2 STATE. Otherwise the run lengths
-- of the control flit before the cursor and of the last one accepted.
use Rattle.std.specs.Prelude.{not, cond, List, ℕ, length, Result, Ok, Err}
use Rattle.end_state.specs.Refusals.{store_is, sound, previous_run, last_run}
use Rattle.end_state.specs.declared.End.{End}
use Rattle.end_state.specs.declared.Refusal.{Refusal}
use Rattle.end_state.specs.declared.Refusal.TheVariants as refusal
use Rattle.end_judge.specs.declared.Runs.{Runs}

unfoldable pub judged : End → List ℕ → Result Runs Refusal
judged e store =
    cond (not (store_is e (length store))) (Err refusal.Store)
    (cond (not (sound e store)) (Err refusal.State)
    (Ok (record { previous = record { 0 = previous_run e store }; last = record { 0 = last_run e store } })))
