-- Send writes what goes on the wire next (01, "Send"): its refusals, its answer, and what the output then holds. The steps are those of
-- crate send_burst.
use Rattle.std.specs.Prelude.{not, cond, List, ℕ, ltb, length, Result, Ok, Err}
use Rattle.flit_number.specs.declared.FlitCount.{FlitCount}
use Rattle.end_state.specs.State.{verdict_number}
use Rattle.end_state.specs.Refusals.{store_is, sound, previous_run, is_down}
use Rattle.end_state.specs.declared.End.{End}
use Rattle.end_state.specs.declared.Answered.{Answered}
use Rattle.end_state.specs.declared.Refusal.{Refusal}
use Rattle.end_state.specs.declared.Refusal.TheVariants as refusal
use Rattle.send_state.specs.Moves.{moved}
use Rattle.send_burst.specs.Burst.{burst, burst_flits, output_with}

-- the refusals of send, in the table's order; 4 OUT: output under 640
unfoldable pub send_verdict : End → List ℕ → ℕ → Result (Unit {0}) Refusal
send_verdict e store output =
    cond (not (store_is e (length store))) (Err refusal.Store)
    (cond (not (sound e store)) (Err refusal.State)
    (cond (ltb output 640) (Err refusal.Out)
    (cond (is_down e.mode) (Err refusal.Down)
    (Ok tt))))

-- a refusal, or the run length of the control flit before the cursor
abbrev pub admitted_run : Result (Unit {0}) Refusal → ℕ → Result FlitCount Refusal
admitted_run (Err r) run = Err r
admitted_run (Ok u) run = Ok (record { 0 = run })

-- what send answers, with the state after it; what the output then holds
abbrev pub sent_by : Result (Unit {0}) Refusal → End → ℕ → Answered (Result FlitCount Refusal)
sent_by (Err r) e run = record { answer = Err r; end = e }
sent_by (Ok u) e run = record { answer = Ok (record { 0 = burst_flits e run }); end = moved e run }

abbrev pub output_by : Result (Unit {0}) Refusal → List ℕ → List ℕ → List ℕ
output_by (Err r) flits output = output
output_by (Ok u) flits output = output_with flits output

unfoldable pub send : End → List ℕ → ℕ → Answered (Result FlitCount Refusal)
send e store output = sent_by (send_verdict e store output) e (previous_run e store)

unfoldable pub send_output : End → List ℕ → List ℕ → ℕ → ℕ → List ℕ
send_output e store output errors information =
    output_by (send_verdict e store (length output)) (burst e store (previous_run e store) errors information) output

-- what an answer tells, in 01's numbers: of a refusal, and of the flits written
abbrev pub send_refusal : Result FlitCount Refusal → ℕ
send_refusal answer = verdict_number answer

abbrev pub flits_written : Result FlitCount Refusal → ℕ
flits_written (Err r) = 0
flits_written (Ok n) = n.0
