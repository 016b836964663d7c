-- `drive_head::put_receive` meets its contract: three texts, one after the other.
use mathlib.Core.List.{[], ◌∷◌}
use mathlib.Core.Path.{ap}
use native.Mathlib.Omega.{arith}
use lib.ListN.{length}
use Rattle.receive_answer.specs.declared.Told.{Told}
use Rattle.text.specs.Text.{ascii}
use Rattle.text.proofs.Laws.{appends_more, appends_as, length_decimal, form_end}
use Rattle.text_word.proofs.Laws.{answer_short}
use Rattle.drive_head.proofs.Laws.{receive_head_is}
use Rattle.drive_head.proofs.put_receive.Goals as goal

pub put-requires : goal.put-requires
put-requires c =
    let p = c.put_form.ensures.puts in
    omega (
      arith,
      form_end (ascii "receive refuse=# answer=") (c.told_by-told.result.refusal ∷ []) p,
      p.size,
      ap length c.answer_word.ensures,
      answer_short c.args.answer,
      c.requires,
    )

pub put_field-requires : goal.put_field-requires
put_field-requires c =
    let p = c.put_form.ensures.puts in
    let q = c.put.ensures.puts in
    omega (
      arith,
      form_end (ascii "receive refuse=# answer=") (c.told_by-told.result.refusal ∷ []) p,
      p.size,
      q.place,
      q.size,
      ap length c.answer_word.ensures,
      answer_short c.args.answer,
      length_decimal c.told_by-told.result.delivered,
      c.requires,
    )

pub returns : goal.returns
returns c =
    let told = c.told_by-told in
    appends_as (receive_head_is c.args.answer told.result.refusal told.result.delivered (ap (λ (t : Told). t.refusal) told.ensures) (ap (λ (t : Told). t.delivered) told.ensures))
    (appends_more (appends_more c.put_form.ensures (appends_as c.answer_word.ensures c.put.ensures)) c.put_field.ensures)
