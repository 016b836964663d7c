-- The state after an acknowledgement, put together from what its parts give.
use mathlib.Core.List.{List}
use mathlib.Core.Path.{◌≡◌}
use Prim.Native.Nat.{ℕ, ◌-◌}
use lib.Dec.{ltb}
use Rattle.flit_number.specs.Numbers.{width, after}
use Rattle.end_state.specs.Ring.{ring_place, walked}
use Rattle.end_state.specs.Update.{with_first, with_held, with_kept, with_oldest, with_acknowledged}
use Rattle.end_state.specs.Refusals.{cursor_at}
use Rattle.end_state.specs.declared.End.{End}
use Rattle.receive_free.specs.Acknowledge.{freed_by, freed, sent_anew, acknowledged}

-- n more flits are acknowledged and b flits freed: the cursor lies k flits past the oldest, r data flits are owed by the unit then first, and
-- p, o, x are the first place, the oldest number and the first number not yet acknowledged
pub acknowledged_is : (e : End) (store : List ℕ) (n b k r p o x : ℕ) → b ≡ freed_by e store n → k ≡ cursor_at e → r ≡ (walked e store b).run
    → p ≡ ring_place e.capacity.0 e.first b
    → o ≡ after width e.oldest.0 b
    → x ≡ after width e.acknowledged.0 n
    → sent_anew (ltb k b) (with_first p (with_held (e.held.0 - b) (with_kept r (with_oldest o (with_acknowledged x e)))))
    ≡ acknowledged e store n
unfolding acknowledged freed
acknowledged_is e store n b k r p o x at cursor run place oldest first = simp (cursor, run, place, oldest, first, at)
