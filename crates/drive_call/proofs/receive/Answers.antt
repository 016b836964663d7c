-- `drive_call::receive` meets its contract: receive with what is lent of the store and of the hold, the ticket after it, and the hold's buffer
-- clean again.
use Rattle.drive_call.proofs.Lent.{left_clean}
use Rattle.drive_call.proofs.Calls.{received_is, held_is}
use Rattle.drive_call.proofs.receive.Goals as goal

pub clear-requires : goal.clear-requires
clear-requires c =
    let p = c.requires in
    left_clean c.args.hold.now 576 c.args.side.hold p.3 p.4 p.5 c.receive-received.new.hold c.receive-received.auto.hold

pub returns : goal.returns
returns c =
    let a = c.args in
    let p = c.requires in
    let r = c.receive-received in
    record {
      value =
          received_is a.side a.store.now p.0 p.1 p.2 a.hold.now p.3 p.4 p.5 a.flit.now r.ensures.value c.after_receive-counted.ensures
          c.after_call.ensures;
      hold_after = held_is a.side a.store.now p.0 p.1 p.2 a.hold.now p.3 p.4 p.5 a.flit.now r.auto.hold r.ensures.hold_after c.clear.ensures;
    }
