use mathlib.Core.Path.{◌∙◌}
use Prim.Native.Nat.{◌≤◌}
use native.Mathlib.Omega.{arith}
use Rattle.receive_free.proofs.Steps.{acknowledged_is}
use Rattle.receive_free.proofs.acknowledged.Goals as goal

pub place-requires : goal.place-requires
place-requires c = let k : c.find_border-border.result.flits ≤ c.args.e.capacity.0 = omega arith in (c.requires.first, k, c.requires.most)

pub returns : goal.returns
returns c = let b = c.find_border-border in
    c.sent_anew.ensures
    ∙ acknowledged_is c.args.e c.args.store.now c.args.flits.0 b.result.flits c.flits_between-cursor.result.0 b.result.run c.place.result
    c.number_after.result.0 c.number_after-2.result.0 b.ensures.flits_value c.flits_between-cursor.ensures b.ensures.run_value c.place.ensures.value
    c.number_after.ensures c.number_after-2.ensures
