-- `drive_call::accept` meets its contract: accept with what is lent of the store, the ticket after it, and the buffer clean again.
use Rattle.drive_call.proofs.Lent.{left_clean}
use Rattle.drive_call.proofs.Calls.{accepted_is, stored_is}
use Rattle.drive_call.proofs.accept.Goals as goal

pub clear-requires : goal.clear-requires
clear-requires c =
    let s = c.args.side in
    let p = c.requires in
    left_clean c.args.store.now s.kept s.store p.0 p.1 p.2 c.accept-accepted.new.store c.accept-accepted.auto.store

pub returns : goal.returns
returns c =
    let a = c.args in
    let p = c.requires in
    let r = c.accept-accepted in
    record {
      value = accepted_is a.side a.store.now p.0 p.1 p.2 a.unit.now r.ensures.value c.after_accept-counted.ensures c.after_call.ensures;
      store_after = stored_is a.side a.store.now p.0 p.1 p.2 a.unit.now r.auto.store r.ensures.store_after c.clear.ensures;
    }
