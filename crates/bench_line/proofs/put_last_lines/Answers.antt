-- `bench_line::put_last_lines` meets its contract: the rest, and the ticket where it is asked for.
use mathlib.Core.List.{[], ◌∷◌}
use native.Mathlib.Omega.{arith}
use Rattle.text.specs.Text.{ascii}
use Rattle.text.proofs.Laws.{form_end}
use Rattle.bench_line.proofs.Laws.{appends_ticketed, appends_unticketed}
use Rattle.bench_line.proofs.put_last_lines.Goals as goal

pub put_ticket-requires : goal.put_ticket-requires
put_ticket-requires c =
    let p = c.put_form.ensures.puts in
    omega (arith, c.requires, p.size, form_end (ascii "rest=#\n") (c.args.rest ∷ []) p)

pub returns-in-Some : goal.returns-in-Some
returns-in-Some c =
    appends_ticketed c.args.rest c.args.ticket c.in-Some.counts c.in-Some.is c.put_form.ensures c.put_ticket.ensures

pub returns-in_default : goal.returns-in_default
returns-in_default c = appends_unticketed c.args.rest c.args.ticket c.in_default.is c.put_form.ensures
