-- The state after each answer, step by step of 01, "Receive" 3 to 6.
use Rattle.std.specs.Prelude.{true, cond, List, ℕ, ◌+◌, eqb}
use Rattle.flit_read.specs.declared.Fields.{Fields}
use Rattle.end_state.specs.Update.{with_gathered, with_discards, with_pending, with_cause, with_mode}
use Rattle.end_state.specs.declared.End.{End}
use Rattle.end_state.specs.declared.Mode.{Mode}
use Rattle.end_state.specs.declared.Mode.TheVariants.{Run, Wait, Down}
use Rattle.receive_answer.specs.Answers.{cause_number}
use Rattle.receive_answer.specs.declared.Cause.{Cause}
use Rattle.receive_answer.specs.declared.Answer.{Answer}
use Rattle.receive_answer.specs.declared.Answer.TheVariants as answer
use Rattle.receive_take.specs.Taken.{idled, closed, delivered, replay_taken}

-- damage, or ahead in mode run
unfoldable pub waiting : End → End
waiting e = with_mode Wait (with_gathered 0 (with_pending true (with_discards 0 e)))

-- discarded, and ahead met in mode wait: 1 more, and at 64 it becomes 0 and replay pending
unfoldable pub discarded : End → End
discarded e = cond (eqb (e.discards + 1) 64) (with_discards 0 (with_pending true e)) (with_discards (e.discards + 1) e)

abbrev pub down : Cause → End → End
down cause e = with_mode Down (with_cause (cause_number cause) e)

abbrev pub ahead_in : Mode → End → End
ahead_in Run e = waiting e
ahead_in Wait e = discarded e
ahead_in Down e = e

unfoldable pub end_after : Answer → End → List ℕ → Fields → End
end_after (answer.Refused r) e store f = e
end_after answer.Held e store f = with_gathered (e.gathered.0 + 1) e
end_after answer.Damaged e store f = waiting e
end_after answer.Skipped e store f = e
end_after (answer.Down cause) e store f = down cause e
end_after (answer.Delivered n) e store f = delivered e store f
end_after answer.Duplicate e store f = closed e store f
end_after answer.Idle e store f = idled e store f
end_after answer.Replayed e store f = with_mode Run (with_discards 0 (replay_taken e store f))
end_after answer.Ahead e store f = ahead_in e.mode (replay_taken e store f)
end_after answer.Discarded e store f = discarded e
