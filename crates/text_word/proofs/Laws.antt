-- How long the words are.
use Prim.Native.Nat.{◌≤◌}
use native.Mathlib.Omega.{arith}
use lib.ListN.{length}
use Rattle.end_state.specs.declared.Mode.{Mode}
use Rattle.end_state.specs.declared.Mode.TheVariants as mode
use Rattle.receive_answer.specs.declared.Answer.{Answer}
use Rattle.receive_answer.specs.declared.Answer.TheVariants as answer
use Rattle.text_word.specs.Words.{answer_word, mode_word}

pub answer_short : (a : Answer) → length (answer_word a) ≤ 9
answer_short (answer.Refused r) = omega arith
answer_short answer.Held = omega arith
answer_short (answer.Delivered n) = omega arith
answer_short answer.Duplicate = omega arith
answer_short answer.Idle = omega arith
answer_short answer.Replayed = omega arith
answer_short answer.Ahead = omega arith
answer_short answer.Skipped = omega arith
answer_short answer.Damaged = omega arith
answer_short answer.Discarded = omega arith
answer_short (answer.Down cause) = omega arith

pub mode_short : (m : Mode) → length (mode_word m) ≤ 4
mode_short mode.Run = omega arith
mode_short mode.Wait = omega arith
mode_short mode.Down = omega arith
