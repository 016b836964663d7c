-- `drive_call::start` meets its contract: zeros, and start with the store.
use Rattle.std.proofs.Common.{arith, refl}
use lib.Seq.{length-take-le}
use Rattle.drive_call.proofs.Lent.{cleared_all}
use Rattle.drive_call.proofs.Calls.{started_is}
use Rattle.drive_call.proofs.start.Goals as goal

pub returns : goal.returns
returns c =
    let store = c.clear.new.buffer in
    let size = length-take-le c.args.bytes store (omega (arith, c.requires.1, c.clear.auto.buffer)) in
    record {
      value = started_is size c.start-started.ensures c.fresh.ensures;
      store_after = cleared_all c.clear.ensures refl;
      hold_after = cleared_all c.clear-2.ensures refl;
    }
