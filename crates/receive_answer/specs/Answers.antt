-- What receive answers, step by step of 01, "Receive": a function of the state, the fields of the arriving flit and whether the check
-- is right.
use Rattle.std.specs.Prelude.{Bool, not, ◌&&◌, cond, ℕ, ◌+◌, ltb, eqb}
use Rattle.flit_read.specs.Fields.{replay_kind, idle_kind}
use Rattle.flit_read.specs.declared.Fields.{Fields}
use Rattle.end_state.specs.State.{refusal_number}
use Rattle.end_state.specs.declared.End.{End}
use Rattle.end_state.specs.declared.Mode.{Mode}
use Rattle.end_state.specs.declared.Mode.TheVariants.{Run, Wait, Down}
use Rattle.end_state.specs.declared.Refusal.TheVariants as refusal
use Rattle.receive_answer.specs.declared.Cause.{Cause}
use Rattle.receive_answer.specs.declared.Cause.TheVariants as cause
use Rattle.receive_answer.specs.declared.Answer.{Answer}
use Rattle.receive_answer.specs.declared.Answer.TheVariants as answer
use Rattle.receive_answer.specs.declared.Told.{Told}
use Rattle.receive_test.specs.Arrivals.{holds, behind, damaged, skips, newly_covered, past_sent}

-- ---- 3. what brings the link down, in the order of the text; 5. and 6. the answer otherwise

abbrev pub cause_number : Cause → ℕ
cause_number cause.PastSent = 1
cause_number cause.LongRun = 2
cause_number cause.ShortNext = 3
cause_number cause.Untold = 4
cause_number (cause.Other n) = n

abbrev pub half : ℕ
half = 32768

-- a replay flit
unfoldable pub replay_answer : End → Fields → Answer
replay_answer e f =
    cond f.short (answer.Down cause.ShortNext)
    (cond (ltb 8 f.previous.0) (answer.Down cause.LongRun)
    (cond (past_sent e (newly_covered e f.last.0)) (answer.Down cause.PastSent)
    (cond (ltb (behind e f.start.0) half) answer.Replayed
    answer.Ahead)))

-- an idle flit, or a control flit with its data
unfoldable pub plain_answer : End → Fields → Answer
plain_answer e f =
    cond f.short (answer.Down cause.ShortNext)
    (cond (past_sent e f.acks.0) (answer.Down cause.PastSent)
    (cond (eqb f.run.0 idle_kind) answer.Idle
    (cond (not (eqb e.position.0 e.wanted.0)) answer.Duplicate
    (cond (ltb 1024 (e.untold.0 + (e.gathered.0 + 1))) (answer.Down cause.Untold)
    (answer.Delivered e.gathered)))))

unfoldable pub run_answer : End → Fields → Bool → Answer
run_answer e f correct =
    cond (holds e) answer.Held
    (cond (damaged e f correct) answer.Damaged
    (cond (skips f) answer.Skipped
    (cond (eqb f.run.0 replay_kind) (replay_answer e f)
    (plain_answer e f))))

-- in mode wait a flit that is not a right replay flit alone is discarded
unfoldable pub wait_answer : End → Fields → Bool → Answer
wait_answer e f correct = cond (correct && eqb f.run.0 replay_kind) (replay_answer e f) answer.Discarded

abbrev pub mode_answer : Mode → End → Fields → Bool → Answer
mode_answer Run e f correct = run_answer e f correct
mode_answer Wait e f correct = wait_answer e f correct
mode_answer Down e f correct = answer.Refused refusal.Down

-- ---- what an answer tells, in 01's numbers: of a refusal, of the data flits that it delivered, of the cause of going down
abbrev pub tells_none : Told
tells_none = record { refusal = 0; delivered = 0; cause = 0 }

abbrev pub tells : Answer → Told
tells (answer.Refused r) = record { refusal = refusal_number r; delivered = 0; cause = 0 }
tells (answer.Delivered n) = record { refusal = 0; delivered = n.0; cause = 0 }
tells (answer.Down why) = record { refusal = 0; delivered = 0; cause = cause_number why }
tells _ = tells_none
