-- What every operation refuses: rows 1, 2 and 5 of the table (01, "Refusals by number"). The other rows stand with the operations that give
-- them, and what row 7 asks of a flit in crate flit_read.
use Rattle.std.specs.Prelude.{Bool, true, false, not, ◌&&◌, ◌||◌, cond, List, ℕ, ◌/◌, ltb, leb, eqb}
use Rattle.flit_number.specs.Numbers.{width, difference}
use Rattle.end_state.specs.State.{store_fits}
use Rattle.end_state.specs.Ring.{walked}
use Rattle.end_state.specs.declared.End.{End}
use Rattle.end_state.specs.declared.Mode.{Mode}
use Rattle.end_state.specs.declared.Mode.TheVariants.{Run, Wait, Down}

-- flits from the oldest to the cursor, to sent, and to the first one not yet acknowledged
abbrev pub cursor_at : End → ℕ
cursor_at e = difference width e.cursor.0 e.oldest.0

abbrev pub sent_at : End → ℕ
sent_at e = difference width e.sent.0 e.oldest.0

abbrev pub acknowledged_at : End → ℕ
acknowledged_at e = difference width e.acknowledged.0 e.oldest.0

-- 1 STORE: not 64 C bytes with C in 9..1024 and equal to the state's
unfoldable pub store_is : End → ℕ → Bool
store_is e bytes = store_fits bytes && eqb (bytes / 64) e.capacity.0

-- 2 STATE, the counts: the first place under C; held flits at most C; a kept run length and owed at most 8; data held at most owed,
-- and none while stalled; untold at most 1,024; discards at most 63
unfoldable pub counts_sound : End → Bool
counts_sound e =
    ltb e.first e.capacity.0
    && leb e.held.0 e.capacity.0
    && leb e.kept.0 8
    && leb e.owed.0 8
    && leb e.gathered.0 e.owed.0
    && (not e.stalled || eqb e.gathered.0 0)
    && leb e.untold.0 1024
    && leb e.discards 63

-- 2 STATE, the numbers: the cursor inside the held flits (the end after the last is inside); sent not before the cursor and not past
-- the held flits; the acknowledged number inside the oldest unit (none held: the next to accept) and not past sent
unfoldable pub numbers_sound : End → Bool
numbers_sound e =
    leb (cursor_at e) e.held.0
    && leb (cursor_at e) (sent_at e)
    && leb (sent_at e) e.held.0
    && leb (acknowledged_at e) (cond (ltb 0 e.held.0) e.kept.0 0)
    && leb (acknowledged_at e) (sent_at e)

-- 2 STATE, the units: the stored control flits cut the held flits into whole units, none of them breaks 7, and the cursor is on a
-- unit border
unfoldable pub units_sound : End → List ℕ → Bool
units_sound e store =
    (walked e store e.held.0).border && (walked e store e.held.0).sound && (walked e store (cursor_at e)).border

unfoldable pub sound : End → List ℕ → Bool
sound e store = counts_sound e && numbers_sound e && units_sound e store

-- the run length of the control flit before the cursor, and of the last control flit accepted (0 at first)
abbrev pub previous_run : End → List ℕ → ℕ
previous_run e store = (walked e store (cursor_at e)).run

abbrev pub last_run : End → List ℕ → ℕ
last_run e store = (walked e store e.held.0).run

-- 5 DOWN
abbrev pub is_down : Mode → Bool
is_down Run = false
is_down Wait = false
is_down Down = true
