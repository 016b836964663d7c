-- The texts as forms with their numbers, and how long they are.
use mathlib.Core.Bool.{Bool, true, false}
use mathlib.Core.List.{List, [], ◌∷◌, ◌++◌, append_assoc}
use mathlib.Core.Path.{◌≡◌, refl, ap, ap₂, sym, ◌∙◌}
use Prim.Native.Nat.{ℕ, ◌≤◌}
use native.Mathlib.Omega.{arith}
use lib.ListN.{length, get_or, length-append}
use mir.Val.{bool_byte}
use Rattle.text.specs.Text.{ascii, filled, key_value}
use Rattle.text.proofs.Laws.{filled_short, in_turn, joined, fields_joined}
use Rattle.text_hex.specs.Dump.{adler}
use Rattle.text_word.specs.Words.{mode_word}
use Rattle.text_word.proofs.Laws.{mode_short}
use Rattle.end_state.specs.declared.End.{End}
use Rattle.ticket.specs.Ticket.{in_order}
use Rattle.ticket.specs.declared.Ticket.{Ticket}
use Rattle.drive_state.specs.Show.{mark_number, ring_part, sending_part, receiving_part, mode_part, older, information_part, sums_part, state_text, ticket_text, after_mode}

-- the number of a bool
mark_is : (set : Bool) → bool_byte set ≡ mark_number set
mark_is true = refl
mark_is false = refl

-- ---- what comes before the mode's word

abbrev before_mode : End → List ℕ
before_mode e = ring_part e ++ sending_part e ++ receiving_part e ++ ascii " mode="

abbrev numbers_form : List ℕ
numbers_form =
    ascii " capacity=# first=# held=# kept=# oldest=# cursor=# sent=# acked=# wanted=# position=# owed=# stalled=# data=# untold=# mode="

abbrev receiving_numbers : End → ℕ → List ℕ
receiving_numbers e stalled = e.wanted.0 ∷ e.position.0 ∷ e.owed.0 ∷ stalled ∷ e.gathered.0 ∷ e.untold.0 ∷ []

abbrev numbers : End → ℕ → List ℕ
numbers e stalled =
    e.capacity.0 ∷ e.first ∷ e.held.0 ∷ e.kept.0 ∷ e.oldest.0 ∷ e.cursor.0 ∷ e.sent.0 ∷ e.acknowledged.0
    ∷ receiving_numbers e stalled

abbrev receiving_form : List ℕ
receiving_form = ascii " wanted=# position=# owed=# stalled=# data=# untold=# mode="

receiving_is : (e : End) → filled receiving_form (receiving_numbers e (mark_number e.stalled)) ≡ receiving_part e ++ ascii " mode="
unfolding filled receiving_part
receiving_is e =
    fields_joined (key_value " wanted=" e.wanted.0)
    ((ascii " position=", e.position.0) ∷ (ascii " owed=", e.owed.0) ∷ (ascii " stalled=", mark_number e.stalled) ∷ (ascii " data=", e.gathered.0) ∷ (ascii " untold=", e.untold.0) ∷ [])
    (ascii " mode=")

numbers_marked : (e : End) → filled numbers_form (numbers e (mark_number e.stalled)) ≡ before_mode e
unfolding filled ring_part sending_part
numbers_marked e =
    let after = filled receiving_form (receiving_numbers e (mark_number e.stalled)) in
    fields_joined (key_value " capacity=" e.capacity.0)
    ((ascii " first=", e.first) ∷ (ascii " held=", e.held.0) ∷ (ascii " kept=", e.kept.0) ∷ [])
    (key_value " oldest=" e.oldest.0 ++ in_turn ((ascii " cursor=", e.cursor.0) ∷ (ascii " sent=", e.sent.0) ∷ (ascii " acked=", e.acknowledged.0) ∷ []) after)
    ∙ ap (λ (l : List ℕ). ring_part e ++ l)
    (fields_joined (key_value " oldest=" e.oldest.0) ((ascii " cursor=", e.cursor.0) ∷ (ascii " sent=", e.sent.0) ∷ (ascii " acked=", e.acknowledged.0) ∷ []) after)
    ∙ sym (append_assoc (ring_part e) (sending_part e) after)
    ∙ ap (λ (l : List ℕ). (ring_part e ++ sending_part e) ++ l) (receiving_is e)
    ∙ sym (append_assoc (ring_part e ++ sending_part e) (receiving_part e) (ascii " mode="))

pub numbers_are : (e : End) → filled numbers_form (numbers e (bool_byte e.stalled)) ≡ before_mode e
numbers_are e = ap (λ (stalled : ℕ). filled numbers_form (numbers e stalled)) (mark_is e.stalled) ∙ numbers_marked e

pub numbers_short : (e : End) → length (before_mode e) ≤ 512
numbers_short e = omega (arith, filled_short numbers_form (numbers e (bool_byte e.stalled)), ap length (numbers_are e))

-- ---- what comes after it

abbrev rest_form : List ℕ
rest_form = ascii " cause=# discards=# pending=# info=#,#,#,#,#,#,#,# store=# hold=#\n"

abbrev rest_numbers : End → ℕ → ℕ → ℕ → List ℕ
rest_numbers e pending store hold =
    e.cause ∷ e.discards ∷ pending ∷ get_or e.information 0 0 ∷ get_or e.information 1 0 ∷ get_or e.information 2 0
    ∷ get_or e.information 3 0 ∷ get_or e.information 4 0 ∷ get_or e.information 5 0 ∷ get_or e.information 6 0
    ∷ get_or e.information 7 0 ∷ store ∷ hold ∷ []

information_is : (l rest : List ℕ)
    → key_value " info=" (get_or l 0 0) ++ (key_value "," (get_or l 1 0) ++ in_turn ((ascii ",", get_or l 2 0) ∷ (ascii ",", get_or l 3 0) ∷ (ascii ",", get_or l 4 0) ∷ (ascii ",", get_or l 5 0) ∷ (ascii ",", get_or l 6 0) ∷ (ascii ",", get_or l 7 0) ∷ []) rest)
    ≡ information_part l ++ rest
unfolding information_part older
information_is l rest =
    ap (λ (t : List ℕ). key_value " info=" (get_or l 0 0) ++ t)
    (fields_joined (key_value "," (get_or l 1 0)) ((ascii ",", get_or l 2 0) ∷ (ascii ",", get_or l 3 0) ∷ (ascii ",", get_or l 4 0) ∷ (ascii ",", get_or l 5 0) ∷ (ascii ",", get_or l 6 0) ∷ (ascii ",", get_or l 7 0) ∷ []) rest)
    ∙ sym (append_assoc (key_value " info=" (get_or l 0 0)) (older l 7) rest)

rest_marked : (e : End) (store hold : ℕ) → filled rest_form (rest_numbers e (mark_number e.pending) store hold) ≡ after_mode e store hold
unfolding filled
rest_marked e store hold =
    let first = joined (key_value " cause=" e.cause) ((ascii " discards=", e.discards) ∷ (ascii " pending=", mark_number e.pending) ∷ []) in
    let sums = filled (ascii " store=# hold=#\n") (store ∷ hold ∷ []) in
    fields_joined (key_value " cause=" e.cause) ((ascii " discards=", e.discards) ∷ (ascii " pending=", mark_number e.pending) ∷ []) _
    ∙ ap (λ (l : List ℕ). first ++ l) (information_is e.information sums)
    ∙ sym (append_assoc first (information_part e.information) sums)
    ∙ ap (λ (l : List ℕ). (first ++ information_part e.information) ++ l) (fields_joined (key_value " store=" store) ((ascii " hold=", hold) ∷ []) (ascii "\n"))

pub rest_is : (e : End) (store hold : ℕ) → filled rest_form (rest_numbers e (bool_byte e.pending) store hold) ≡ after_mode e store hold
rest_is e store hold =
    ap (λ (pending : ℕ). filled rest_form (rest_numbers e pending store hold)) (mark_is e.pending) ∙ rest_marked e store hold

pub rest_short : (e : End) (store hold : ℕ) → length (after_mode e store hold) ≤ 384
rest_short e store hold = omega (arith, filled_short rest_form (rest_numbers e (bool_byte e.pending) store hold), ap length (rest_is e store hold))

-- ---- the state

parts_joined : (ring sending receiving mode word cause discards pending information sums : List ℕ)
    → (ring ++ sending ++ receiving ++ mode) ++ word ++ (cause ++ discards ++ pending ++ information ++ sums)
    ≡ ring ++ sending ++ receiving ++ (mode ++ word ++ cause ++ discards ++ pending) ++ information ++ sums
parts_joined ring sending receiving mode word cause discards pending information sums = simp append_assoc

pub state_is : (e : End) (store hold : List ℕ) (a b : ℕ) → a ≡ adler store → b ≡ adler hold
    → before_mode e ++ mode_word e.mode ++ after_mode e a b ≡ state_text e store hold
unfolding state_text mode_part sums_part
state_is e store hold a b p q =
    ap₂ (λ (m n : ℕ). before_mode e ++ mode_word e.mode ++ after_mode e m n) p q
    ∙ parts_joined (ring_part e) (sending_part e) (receiving_part e) (ascii " mode=") (mode_word e.mode) (key_value " cause=" e.cause) (key_value " discards=" e.discards) (key_value " pending=" (mark_number e.pending)) (information_part e.information) (key_value " store=" (adler store) ++ key_value " hold=" (adler hold) ++ ascii "\n")

pub state_short : (e : End) (store hold : List ℕ) → length (state_text e store hold) ≤ 1024
state_short e store hold =
    let before = before_mode e ++ mode_word e.mode in
    let after = after_mode e (adler store) (adler hold) in
    omega (
      arith,
      ap length (state_is e store hold (adler store) (adler hold) refl refl),
      length-append before after,
      length-append (before_mode e) (mode_word e.mode),
      numbers_short e,
      mode_short e.mode,
      rest_short e (adler store) (adler hold),
    )

-- ---- the ticket

abbrev ticket_form : List ℕ
ticket_form = ascii "ticket refuse=0 accepted=# delivered=# damaged=# duplicate=# downs=#\n"

pub ticket_is : (t : Ticket) → filled ticket_form (in_order t) ≡ ticket_text t
unfolding filled ticket_text
ticket_is t =
    ap (λ (l : List ℕ). ascii "ticket refuse=0" ++ l)
    (fields_joined (key_value " accepted=" t.accepted)
    ((ascii " delivered=", t.delivered) ∷ (ascii " damaged=", t.damaged) ∷ (ascii " duplicate=", t.duplicate) ∷ (ascii " downs=", t.downs) ∷ [])
    (ascii "\n"))

pub ticket_short : (t : Ticket) → length (ticket_text t) ≤ 256
ticket_short t = omega (arith, filled_short ticket_form (in_order t), ap length (ticket_is t))
