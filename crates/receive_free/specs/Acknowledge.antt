-- An acknowledgement counts (01, Receive 4; "What an end keeps"): units all of whose flits are acknowledged leave the store.
use Rattle.std.specs.Prelude.{Bool, true, cond, ◌≡◌, List, ℕ, zero, suc, ◌+◌, ◌-◌, ◌*◌, ◌<◌, ◌≤◌, ltb, length}
use Rattle.flit_number.specs.Numbers.{width, after}
use Rattle.end_state.specs.Update.{with_first, with_held, with_kept, with_oldest, with_cursor, with_acknowledged, with_pending}
use Rattle.end_state.specs.Ring.{ring_place, walk_begun, walk_over, walked}
use Rattle.end_state.specs.Refusals.{cursor_at, acknowledged_at}
use Rattle.end_state.specs.declared.End.{End}
use Rattle.end_state.specs.declared.walk.Walk.{Walk}

-- the last unit border among the n oldest flits
unfoldable pub last_border : ℕ → ℕ → Walk → List ℕ → ℕ → ℕ
last_border places first w store zero = 0
last_border places first w store (suc n) = cond (walk_over places first w store (suc n)).border (suc n) (last_border places first w store n)

-- the oldest flits that leave the store where n more are acknowledged
abbrev pub freed_by : End → List ℕ → ℕ → ℕ
freed_by e store n = last_border e.capacity.0 e.first (walk_begun e.kept.0) store (acknowledged_at e + n)

-- the first place moves past them
unfoldable pub freed : End → List ℕ → ℕ → End
freed e store flits =
    with_first (ring_place e.capacity.0 e.first flits)
    (with_held (e.held.0 - flits) (with_kept (walked e store flits).run (with_oldest (after width e.oldest.0 flits) e)))

-- where all is to be sent again, the cursor at the oldest unit (none held: the next to accept), and replay pending
abbrev pub sent_anew : Bool → End → End
sent_anew again e = cond again (with_cursor e.oldest.0 (with_pending true e)) e

-- n more flits are acknowledged; if freed units pass the cursor, it moves to the oldest unit left and replay becomes pending
unfoldable pub acknowledged : End → List ℕ → ℕ → End
acknowledged e store n =
    sent_anew (ltb (cursor_at e) (freed_by e store n))
    (freed (with_acknowledged (after width e.acknowledged.0 n) e) store (freed_by e store n))

-- what the functions that free flits ask: the store is the ring, and the n flits more are held
pub record Covered (e : End) (store : List ℕ) (n : ℕ) : Type 0 where
  pub bytes : length store ≡ e.capacity.0 * 64
  pub most : e.capacity.0 ≤ 1024
  pub first : e.first < e.capacity.0
  pub held : e.held.0 ≤ e.capacity.0
  pub covered : acknowledged_at e + n ≤ e.held.0
