-- The words for answers and modes (01, "Receive"; "The bench ticket").
use Rattle.std.specs.Prelude.{List, ℕ}
use Rattle.text.specs.Text.{ascii}
use Rattle.end_state.specs.declared.Mode.{Mode}
use Rattle.end_state.specs.declared.Mode.TheVariants as mode
use Rattle.receive_answer.specs.declared.Answer.{Answer}
use Rattle.receive_answer.specs.declared.Answer.TheVariants as answer

-- an answer is the italic word under Receive, or down; a flit after a down is refused
abbrev pub answer_word : Answer → List ℕ
answer_word (answer.Refused r) = ascii "refused"
answer_word answer.Held = ascii "held"
answer_word (answer.Delivered n) = ascii "delivered"
answer_word answer.Duplicate = ascii "duplicate"
answer_word answer.Idle = ascii "idle"
answer_word answer.Replayed = ascii "replayed"
answer_word answer.Ahead = ascii "ahead"
answer_word answer.Skipped = ascii "skipped"
answer_word answer.Damaged = ascii "damaged"
answer_word answer.Discarded = ascii "discarded"
answer_word (answer.Down cause) = ascii "down"

abbrev pub mode_word : Mode → List ℕ
mode_word mode.Run = ascii "run"
mode_word mode.Wait = ascii "wait"
mode_word mode.Down = ascii "down"
