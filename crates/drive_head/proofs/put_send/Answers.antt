-- `drive_head::put_send` meets its contract: three texts, one after the other.
use mathlib.Core.List.{[], ◌∷◌}
use mathlib.Core.Path.{sym}
use native.Mathlib.Omega.{arith}
use Rattle.text.specs.Text.{ascii}
use Rattle.text.proofs.Laws.{appends_more, appends_as, form_end}
use Rattle.text_hex.proofs.Laws.{hex_short}
use Rattle.drive_head.proofs.Laws.{appends_no_spill, appends_spill, send_head_is}
use Rattle.drive_head.proofs.put_send.Goals as goal

pub put_hex-requires : goal.put_hex-requires
put_hex-requires c =
    let p = c.put_form.ensures.puts in
    omega (
      arith,
      form_end (ascii "send refuse=# flits=# out=") (c.verdict_number.result ∷ c.flits_of-flits.result ∷ []) p,
      p.size,
      c.split_at.ensures.front_len,
      c.requires.0,
      c.requires.2,
    )

pub put-requires : goal.put-requires
put-requires c =
    let p = c.put_form.ensures.puts in
    let h = c.put_hex.ensures.puts in
    omega (
      arith,
      form_end (ascii "send refuse=# flits=# out=") (c.verdict_number.result ∷ c.flits_of-flits.result ∷ []) p,
      p.size,
      h.place,
      h.size,
      hex_short c.split_at.result.0.now,
      c.split_at.ensures.front_len,
      c.requires.0,
      c.requires.2,
    )

pub returns-then-not-untouched : goal.returns-then-not-untouched
returns-then-not-untouched c =
    let split = c.split_at.ensures in
    appends_as (send_head_is c.args.answer _ _ _ _ _ c.verdict_number.ensures c.flits_of-flits.ensures split.front split.back)
    (appends_more (appends_more c.put_form.ensures c.put_hex.ensures) (appends_spill _ (sym c.if-not-untouched.ensures) c.put.ensures))

pub returns-else-not-untouched : goal.returns-else-not-untouched
returns-else-not-untouched c =
    let split = c.split_at.ensures in
    appends_as (send_head_is c.args.answer _ _ _ _ _ c.verdict_number.ensures c.flits_of-flits.ensures split.front split.back)
    (appends_more (appends_more c.put_form.ensures c.put_hex.ensures) (appends_no_spill _ _ (sym c.if-not-untouched.ensures)))
