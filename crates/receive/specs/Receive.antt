-- Receive takes one arriving flit (01, "Receive"): its refusals, hold after each answer, and the whole of it. The steps are those of crates
-- receive_test, receive_answer and receive_state.
use Rattle.std.specs.Prelude.{not, ◌&&◌, cond, List, ℕ, eqb, length, Result, Ok, Err}
use Rattle.crc.specs.Unit.{right}
use Rattle.flit_read.specs.Fields.{fields_of}
use Rattle.flit_write.specs.Flits.{bare_control}
use Rattle.end_state.specs.Ring.{put_at}
use Rattle.end_state.specs.Refusals.{store_is, sound, is_down}
use Rattle.end_state.specs.declared.End.{End}
use Rattle.end_state.specs.declared.Answered.{Answered}
use Rattle.end_state.specs.declared.Refusal.{Refusal}
use Rattle.end_state.specs.declared.Refusal.TheVariants as refusal
use Rattle.receive_test.specs.Arrivals.{checked}
use Rattle.receive_answer.specs.Answers.{mode_answer}
use Rattle.receive_answer.specs.declared.Answer.{Answer}
use Rattle.receive_answer.specs.declared.Answer.TheVariants as answer
use Rattle.receive_state.specs.Effects.{end_after}

-- the refusals of receive, in the table's order; 3 SHAPE: flit length not 64
unfoldable pub receive_verdict : End → List ℕ → ℕ → ℕ → Result (Unit {0}) Refusal
receive_verdict e store hold flit =
    cond (not (store_is e (length store) && eqb hold 576)) (Err refusal.Store)
    (cond (not (sound e store)) (Err refusal.State)
    (cond (not (eqb flit 64)) (Err refusal.Shape)
    (cond (is_down e.mode) (Err refusal.Down)
    (Ok tt))))

-- only a held flit and a delivery write hold: data in its first part, the control flit after it with bits 63:18 zero
unfoldable pub hold_after : Answer → End → List ℕ → List ℕ → List ℕ
hold_after answer.Held e hold flit = put_at hold e.gathered.0 flit
hold_after (answer.Delivered n) e hold flit = put_at hold e.gathered.0 (bare_control flit)
hold_after _ e hold flit = hold

-- ---- receive

abbrev pub answer_by : Result (Unit {0}) Refusal → End → List ℕ → List ℕ → Answer
answer_by (Err r) e hold flit = answer.Refused r
answer_by (Ok u) e hold flit = mode_answer e.mode e (fields_of flit) (right (checked e hold flit))

-- what receive answers, with the state after it; what hold then has
unfoldable pub answer_to : End → List ℕ → List ℕ → List ℕ → Answer
answer_to e store hold flit = answer_by (receive_verdict e store (length hold) (length flit)) e hold flit

unfoldable pub receive : End → List ℕ → List ℕ → List ℕ → Answered Answer
receive e store hold flit =
    record { answer = answer_to e store hold flit; end = end_after (answer_to e store hold flit) e store (fields_of flit) }

unfoldable pub receive_hold : End → List ℕ → List ℕ → List ℕ → List ℕ
receive_hold e store hold flit = hold_after (answer_to e store hold flit) e hold flit
