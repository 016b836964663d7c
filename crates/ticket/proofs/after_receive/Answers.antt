-- `ticket::after_receive` meets its contract, answer by answer.
use mathlib.Core.Path.{ap}
use Prim.Native.Nat.{◌+◌}
use native.Mathlib.Omega.{arith}
use Rattle.receive_answer.specs.declared.Answer.{Answer}
use Rattle.ticket.specs.Ticket.{TicketCall, adds, counts}
use Rattle.ticket.proofs.Laws.{after_is, unchanged_is, uncounted}
use Rattle.ticket.proofs.after_receive.Goals as goal

pub returns-in-Delivered : goal.returns-in-Delivered
unfolding adds
returns-in-Delivered c = let a = c.args in
    let told = c.in-Delivered in
    after_is a.t (TicketCall.receives a.answer) (counts 0 (told.data.0 + 1) 0 0 0) _ (ap (λ (a : Answer). adds (TicketCall.receives a)) told.is)
    (omega arith) (omega arith) (omega arith) (omega arith) (omega arith)

pub returns-in-Damaged : goal.returns-in-Damaged
unfolding adds
returns-in-Damaged c = let a = c.args in
    after_is a.t (TicketCall.receives a.answer) (counts 0 0 1 0 0) _ (ap (λ (a : Answer). adds (TicketCall.receives a)) c.in-Damaged.is) (omega arith) (omega arith) (omega arith) (omega arith) (omega arith)

pub returns-in-Duplicate : goal.returns-in-Duplicate
unfolding adds
returns-in-Duplicate c = let a = c.args in
    after_is a.t (TicketCall.receives a.answer) (counts 0 0 0 1 0) _ (ap (λ (a : Answer). adds (TicketCall.receives a)) c.in-Duplicate.is) (omega arith) (omega arith) (omega arith) (omega arith) (omega arith)

pub returns-in-Down : goal.returns-in-Down
unfolding adds
returns-in-Down c = let a = c.args in
    after_is a.t (TicketCall.receives a.answer) (counts 0 0 0 0 1) _ (ap (λ (a : Answer). adds (TicketCall.receives a)) c.in-Down.is) (omega arith) (omega arith) (omega arith) (omega arith) (omega arith)

pub returns-in_default : goal.returns-in_default
returns-in_default c =
    let d = c.in_default in
    unchanged_is c.args.t (TicketCall.receives c.args.answer) (omega arith) (omega arith) (omega arith) (omega arith) (omega arith)
    (uncounted c.args.answer d.not-Delivered d.not-Damaged d.not-Duplicate d.not-Down)
