-- The lines from their forms, and how long they are.
use mathlib.Core.List.{List, [], ◌∷◌, ◌++◌, append-nil, append_assoc}
use mathlib.Core.Path.{◌≡◌, refl, ap, sym, ◌∙◌}
use Prim.Native.Nat.{ℕ, ◌+◌, ◌≤◌}
use native.Mathlib.Omega.{arith}
use lib.ListN.{length, length-append}
use Rattle.std.specs.Prelude.{Option, Some, None}
use Rattle.text.specs.declared.Writer.{Writer}
use Rattle.text.specs.Text.{ascii, decimal, filled, Appends}
use Rattle.text.proofs.Laws.{length_decimal, appends_more, appends_as}
use Rattle.ticket.specs.Ticket.{text}
use Rattle.ticket.specs.declared.Ticket.{Ticket}
use Rattle.ticket.proofs.Laws.{text_short}
use Rattle.text_word.specs.Words.{answer_word, mode_word}
use Rattle.text_word.proofs.Laws.{answer_short, mode_short}
use Rattle.end_state.specs.declared.End.{End}
use Rattle.receive_answer.specs.Answers.{tells}
use Rattle.receive_answer.specs.declared.Answer.{Answer}
use Rattle.bench_line.specs.Line.{answer_part, state_part, flit_line, ticket_asked, last_lines}

pub answer_part_short : (flit : ℕ) (a : Answer) → length (answer_part flit a) ≤ 80
unfolding answer_part
answer_part_short flit a =
    simp length-append (omega (arith, length_decimal flit, answer_short a, length_decimal (tells a).delivered))

state_part_short : (e : End) → length (state_part e) ≤ 48
unfolding state_part
state_part_short e = simp length-append (omega (arith, length_decimal e.wanted.0, mode_short e.mode))

pub line_short : (flit : ℕ) (a : Answer) (e : End) → length (flit_line flit a e) ≤ 128
unfolding flit_line
line_short flit a e = simp length-append (omega (arith, answer_part_short flit a, state_part_short e))

-- ---- a line from its forms: put_line goes by the keys, and the law is public

line_joined : (flit word data_part wanted key mode feed : List ℕ)
    → flit ++ word ++ (data_part ++ (wanted ++ key)) ++ mode ++ feed ≡ (flit ++ word ++ data_part) ++ (wanted ++ key ++ mode ++ feed)
line_joined flit word data_part wanted key mode feed = simp append_assoc

pub line_is : (flit : ℕ) (a : Answer) (e : End) (n : ℕ) → n ≡ (tells a).delivered
    → filled (ascii "flit=# answer=") (flit ∷ []) ++ answer_word a ++ filled (ascii " data=# wanted=# mode=") (n ∷ e.wanted.0 ∷ [])
    ++ mode_word e.mode
    ++ ascii "\n"
    ≡ flit_line flit a e
unfolding filled flit_line answer_part state_part
line_is flit a e n h =
    line_joined (ascii "flit=" ++ decimal flit ++ ascii " answer=") (answer_word a) (ascii " data=" ++ decimal n) (ascii " wanted=" ++ decimal e.wanted.0) (ascii " mode=") (mode_word e.mode) (ascii "\n")
    ∙ ap (λ (k : ℕ). (ascii "flit=" ++ decimal flit ++ ascii " answer=" ++ answer_word a ++ (ascii " data=" ++ decimal k)) ++ state_part e) h

-- ---- room

-- a key and its number
pub field_short : (key : List ℕ) (n : ℕ) → length (key ++ decimal n) ≤ length key + 20
field_short key n = simp length-append (omega (arith, length_decimal n))

-- what is left of the room after a text of at most so many bytes
pub room_left : {before after : Writer} {text : List ℕ} {most : ℕ} (more : ℕ) → Appends before text after → length text ≤ most
    → before.at + (most + more) ≤ length before.out.now → after.at + more ≤ length after.out.now
room_left more p h k = omega (arith, p.puts.place, p.puts.size, h)

-- the last lines, with the ticket and without it
lines_joined : (rest : ℕ) (ticket : Option Ticket)
    → filled (ascii "rest=#\n") (rest ∷ []) ++ ticket_asked ticket ≡ last_lines rest ticket
unfolding filled last_lines
lines_joined rest ticket = refl

pub appends_ticketed : {before middle after : Writer} (rest : ℕ) (ticket : Option Ticket) (t : Ticket) → ticket ≡ Some t
    → Appends before (filled (ascii "rest=#\n") (rest ∷ [])) middle → Appends middle (text t) after
    → Appends before (last_lines rest ticket) after
appends_ticketed rest ticket t h p q = rw h (appends_as (lines_joined rest (Some t)) (appends_more p q))

pub appends_unticketed : {before after : Writer} (rest : ℕ) (ticket : Option Ticket) → ticket ≡ None
    → Appends before (filled (ascii "rest=#\n") (rest ∷ [])) after → Appends before (last_lines rest ticket) after
appends_unticketed rest ticket h p =
    rw h (appends_as (sym (append-nil _) ∙ lines_joined rest None) p)

pub last_short : (rest : ℕ) (ticket : Option Ticket) → length (last_lines rest ticket) ≤ 256
unfolding last_lines
last_short rest (Some t) = simp length-append (omega (arith, length_decimal rest, text_short t))
last_short rest None = simp length-append (omega (arith, length_decimal rest))
