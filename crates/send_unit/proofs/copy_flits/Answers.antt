-- `send_unit::copy_flits` meets its contract: each flit is written after the flits before it, and the bytes past it stay.
use mathlib.Core.List.{List, ◌++◌}
use mathlib.Core.Path.{◌≡◌, refl, ◌∙◌}
use Prim.Native.Nat.{ℕ, ◌+◌, ◌*◌}
use native.Mathlib.Numerals.{add-one}
use native.Mathlib.Omega.{arith}
use Rattle.end_state.proofs.Parts.{put_after}
use Rattle.end_state.specs.Ring.{flit_at, ring_place}
use Rattle.send_unit.specs.Units.{stored_flits}
use Rattle.send_unit.proofs.Lengths.{length_stored}
use Rattle.send_unit.proofs.copy_flits.Goals as goal

-- one flit more
next_stored : (places first : ℕ) (store : List ℕ) (from n : ℕ)
    → stored_flits places first store from (n + 1) ≡ stored_flits places first store from n ++ flit_at store (ring_place places first (from + n))
unfolding stored_flits
next_stored places first store from n = rw add-one

pub loop-n-init : goal.loop-n-init
unfolding stored_flits
loop-n-init c = refl

pub loop-n-preserved : goal.loop-n-preserved
loop-n-preserved c =
    let r = c.args.ring in
    let s = length_stored _ _ r.store.now r.inside r.whole c.args.from c.loop-n.n (omega arith) in
    rw next_stored
    (put_after _ _ _ c.args.output.now _ _ _ ((c.loop-n.n + 1) * 64) c.loop-n.invariant s (omega arith)
    (c.put.ensures ∙ c.taken-flit.ensures ∙ c.flit.ensures.value))
