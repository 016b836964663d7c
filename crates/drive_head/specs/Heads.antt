-- What a line says before the state.
use Rattle.std.specs.Prelude.{Bool, cond, List, [], ◌++◌, ℕ, ◌*◌, ◌==◌, take, drop, Result}
use Rattle.std.specs.List.{list_all}
use Rattle.text.specs.Text.{ascii, key_value}
use Rattle.text_hex.specs.Dump.{hex}
use Rattle.text_word.specs.Words.{answer_word}
use Rattle.receive_answer.specs.Answers.{tells}
use Rattle.receive_answer.specs.declared.Answer.{Answer}
use Rattle.send.specs.Send.{send_refusal, flits_written}
use Rattle.end_state.specs.declared.Refusal.{Refusal}
use Rattle.flit_number.specs.declared.FlitCount.{FlitCount}

-- OP refuse=N [flits=K out=HEX] [answer=WORD data=K]

-- if a byte of the output past the flits is no longer 165, spill follows
abbrev pub untouched : List ℕ → Bool
untouched bytes = list_all (λ b. b == 165) bytes

unfoldable pub spill : List ℕ → List ℕ
spill rest = cond (untouched rest) [] (ascii " spill")

unfoldable pub send_head : Result FlitCount Refusal → List ℕ → List ℕ
send_head answer output =
    key_value "send refuse=" (send_refusal answer) ++ key_value " flits=" (flits_written answer) ++ ascii " out="
    ++ hex (take (flits_written answer * 64) output)
    ++ spill (drop (flits_written answer * 64) output)

unfoldable pub receive_head : Answer → List ℕ
receive_head answer =
    key_value "receive refuse=" (tells answer).refusal ++ ascii " answer=" ++ answer_word answer
    ++ key_value " data=" (tells answer).delivered
