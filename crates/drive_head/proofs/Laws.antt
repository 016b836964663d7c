-- What comes before the state, from what the functions say: its parts joined, and how long it is.
use mathlib.Core.Bool.{true, false}
use mathlib.Core.List.{List, [], ◌∷◌, ◌++◌}
use mathlib.Core.Path.{◌≡◌, refl, ap, sym, ◌∙◌}
use Prim.Native.Nat.{ℕ, ◌*◌, ◌≤◌}
use native.Mathlib.Omega.{arith}
use lib.ListN.{length, take, drop, length-append, length-take}
use Rattle.text.specs.declared.Writer.{Writer}
use Rattle.text.specs.Text.{ascii, decimal, filled, Appends, key_value}
use Rattle.text.proofs.Laws.{appends_none, appends_as, length_decimal, fields_joined}
use Rattle.text_hex.specs.Dump.{hex}
use Rattle.text_hex.proofs.Laws.{hex_short}
use Rattle.text_word.specs.Words.{answer_word}
use Rattle.text_word.proofs.Laws.{answer_short}
use Rattle.std.proofs.lemmas.Bool.{cond-true, cond-false, cond_both}
use Rattle.receive_answer.specs.Answers.{tells}
use Rattle.receive_answer.specs.declared.Answer.{Answer}
use Rattle.send.specs.Send.{send_refusal, flits_written}
use Rattle.end_state.specs.declared.Refusal.{Refusal}
use Rattle.flit_number.specs.declared.FlitCount.{FlitCount}
use Rattle.std.specs.Prelude.{Result}
use Rattle.drive_head.specs.Heads.{untouched, spill, send_head, receive_head}

-- ---- its parts

send_numbers : (r f : ℕ)
    → filled (ascii "send refuse=# flits=# out=") (r ∷ f ∷ []) ≡ key_value "send refuse=" r ++ key_value " flits=" f ++ ascii " out="
unfolding filled
send_numbers r f = fields_joined (key_value "send refuse=" r) ((ascii " flits=", f) ∷ []) (ascii " out=")

pub send_head_is : (answer : Result FlitCount Refusal) (output : List ℕ) (r f : ℕ) (h s : List ℕ) → r ≡ send_refusal answer → f ≡ flits_written answer
    → h ≡ take (f * 64) output → s ≡ drop (f * 64) output
    → filled (ascii "send refuse=# flits=# out=") (r ∷ f ∷ []) ++ hex h ++ spill s ≡ send_head answer output
unfolding send_head
send_head_is answer output r f h s a b c d =
    ap (λ (l : List ℕ). l ++ hex h ++ spill s) (send_numbers r f) ∙ rw (c, d, a, b) refl

pub receive_head_is : (answer : Answer) (r d : ℕ) → r ≡ (tells answer).refusal → d ≡ (tells answer).delivered
    → filled (ascii "receive refuse=# answer=") (r ∷ []) ++ answer_word answer ++ (ascii " data=" ++ decimal d) ≡ receive_head answer
unfolding filled receive_head
receive_head_is answer r d a b = rw (a, b) refl

pub appends_no_spill : (w : Writer) (rest : List ℕ) → untouched rest ≡ true → Appends w (spill rest) w
unfolding spill
appends_no_spill w rest h = appends_as (sym (cond-true (untouched rest) [] (ascii " spill") h)) (appends_none w)

pub appends_spill : {before after : Writer} (rest : List ℕ) → untouched rest ≡ false → Appends before (ascii " spill") after
    → Appends before (spill rest) after
unfolding spill
appends_spill rest h p = appends_as (sym (cond-false (untouched rest) [] (ascii " spill") h)) p

-- ---- how long it is

spill_short : (rest : List ℕ) → length (spill rest) ≤ 6
unfolding spill
spill_short rest =
    cond_both (untouched rest) [] (ascii " spill") (λ (l : List ℕ). length l ≤ 6) (λ _. omega arith) (λ _. omega arith)

pub send_head_short : (answer : Result FlitCount Refusal) (output : List ℕ) → flits_written answer ≤ 31 → length (send_head answer output) ≤ 4200
unfolding send_head
send_head_short answer output h =
    let bytes = take (flits_written answer * 64) output in
    simp length-append
    (omega (
      arith,
      length_decimal (send_refusal answer),
      length_decimal (flits_written answer),
      hex_short bytes,
      length-take (flits_written answer * 64) output,
      spill_short (drop (flits_written answer * 64) output),
    ))

pub receive_head_short : (answer : Answer) → length (receive_head answer) ≤ 200
unfolding receive_head
receive_head_short answer =
    simp length-append (omega (arith, length_decimal (tells answer).refusal, answer_short answer, length_decimal (tells answer).delivered))
