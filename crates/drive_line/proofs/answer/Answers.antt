-- `drive_line::answer` meets its contract, command by command.
use Rattle.std.proofs.Common.{ap, refl, subst, arith, ℕ}
use lib.Seq.{length-take-le}
use Rattle.drive_script.specs.Script.{InRange, bytes_in}
use Rattle.drive_line.specs.Lines.{commanded, bad, send_line, ticket_line}
use Rattle.drive_line.proofs.Leaving.{left_did}
use Rattle.drive_line.proofs.answer.Goals as goal

pub start-requires : goal.start-requires
unfolding InRange
start-requires c = (subst InRange c.in-Start.is c.requires.0, c.requires.1)

pub poke-requires : goal.poke-requires
unfolding InRange
poke-requires c = (subst InRange c.in-Poke.is c.requires.0, c.requires.1)

pub lend-requires : goal.lend-requires
unfolding InRange
lend-requires c =
    let h = subst InRange c.in-Lend.is c.requires.0 in
    (h.0, h.1, c.requires.1)

pub shared_ref_as_front-accept : goal.shared_ref_as_front-accept
unfolding InRange
shared_ref_as_front-accept c = subst InRange c.in-Accept.is c.requires.0

pub slice_bounds-send-end : goal.slice_bounds-send-end
unfolding InRange
slice_bounds-send-end c = subst InRange c.in-Send.is c.requires.0

pub shared_ref_as_front-receive : goal.shared_ref_as_front-receive
unfolding InRange
shared_ref_as_front-receive c = subst InRange c.in-Receive.is c.requires.0

pub shared_ref_as_front-fill : goal.shared_ref_as_front-fill
unfolding InRange
shared_ref_as_front-fill c = subst InRange c.in-Fill.is c.requires.0

pub returns-in-Start : goal.returns-in-Start
unfolding commanded bytes_in
returns-in-Start c =
    let l = left_did c.args.end.now c.args.bytes.now c.in-Start.is refl (record { kept_after = c.start.ensures.kept_after; appends = c.start.ensures.appends }) in
    record { kept_after = l.kept_after; appends = l.appends }

pub returns-in-Accept : goal.returns-in-Accept
unfolding commanded bytes_in
returns-in-Accept c =
    let l = left_did c.args.end.now c.args.bytes.now c.in-Accept.is refl (record { kept_after = c.accept.ensures.kept_after; appends = c.accept.ensures.appends }) in
    record { kept_after = l.kept_after; appends = l.appends }

pub returns-in-Send : goal.returns-in-Send
unfolding commanded InRange
returns-in-Send c =
    let k = c.in-Send in
    let size = length-take-le k.n c.args.bytes.now (omega (arith, subst InRange k.is c.requires.0)) in
    let l =
    left_did c.args.end.now c.args.bytes.now k.is (ap (λ (n : ℕ). send_line c.args.end.now n k.errors k.information) size)
    (record { kept_after = c.send.ensures.kept_after; appends = c.send.ensures.appends }) in
    record { kept_after = l.kept_after; appends = l.appends }

pub returns-in-Receive : goal.returns-in-Receive
unfolding commanded bytes_in
returns-in-Receive c =
    let l = left_did c.args.end.now c.args.bytes.now c.in-Receive.is refl (record { kept_after = c.receive.ensures.kept_after; appends = c.receive.ensures.appends }) in
    record { kept_after = l.kept_after; appends = l.appends }

pub returns-in-Poke : goal.returns-in-Poke
unfolding commanded bytes_in
returns-in-Poke c =
    let l = left_did c.args.end.now c.args.bytes.now c.in-Poke.is refl (record { kept_after = c.poke.ensures.kept_after; appends = c.poke.ensures.appends }) in
    record { kept_after = l.kept_after; appends = l.appends }

pub returns-in-Fill : goal.returns-in-Fill
unfolding commanded bytes_in
returns-in-Fill c =
    let l = left_did c.args.end.now c.args.bytes.now c.in-Fill.is refl (record { kept_after = c.fill.ensures.kept_after; appends = c.fill.ensures.appends }) in
    record { kept_after = l.kept_after; appends = l.appends }

pub returns-in-Lend : goal.returns-in-Lend
unfolding commanded bytes_in
returns-in-Lend c =
    let l = left_did c.args.end.now c.args.bytes.now c.in-Lend.is refl (record { kept_after = c.lend.ensures.kept_after; appends = c.lend.ensures.appends }) in
    record { kept_after = l.kept_after; appends = l.appends }

pub returns-in-Count : goal.returns-in-Count
unfolding commanded bytes_in
returns-in-Count c =
    let l = left_did c.args.end.now c.args.bytes.now c.in-Count.is refl (record { kept_after = c.count.ensures.kept_after; appends = c.count.ensures.appends }) in
    record { kept_after = l.kept_after; appends = l.appends }

pub returns-in-Bad : goal.returns-in-Bad
unfolding commanded bad
returns-in-Bad c =
    let l = left_did c.args.end.now c.args.bytes.now {d = bad c.args.end.now} c.in-Bad.is refl (record { kept_after = refl; appends = c.bad.ensures }) in
    record { kept_after = l.kept_after; appends = l.appends }

pub returns-in-Ticket : goal.returns-in-Ticket
unfolding commanded bad
returns-in-Ticket c =
    let l = left_did c.args.end.now c.args.bytes.now {d = record { kept = c.args.end.now; line = ticket_line c.args.end.now.side }} c.in-Ticket.is refl (record { kept_after = refl; appends = c.ticket.ensures }) in
    record { kept_after = l.kept_after; appends = l.appends }
