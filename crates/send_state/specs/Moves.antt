-- What one send moves, step by step of 01, "Send".
use Rattle.std.specs.Prelude.{Bool, false, cond, ℕ, ◌+◌, ◌-◌, ltb, leb}
use Rattle.flit_number.specs.Numbers.{width, after}
use Rattle.end_state.specs.Update.{with_cursor, with_sent, with_untold, with_pending}
use Rattle.end_state.specs.Refusals.{cursor_at, sent_at}
use Rattle.end_state.specs.declared.End.{End}

-- each idle or control flit carries the smaller of 31 and untold, which falls by it
abbrev pub carried : ℕ → ℕ
carried untold = cond (leb untold 31) untold 31

abbrev pub fallen : ℕ → ℕ
fallen untold = untold - carried untold

-- below, `run` is the run length of the control flit before the cursor (0 if none): the data flits owed there

-- a unit at the cursor
abbrev pub unit_at_cursor : End → Bool
unit_at_cursor e = ltb (cursor_at e) e.held.0

-- the cursor moves past the unit, and sent with it where the cursor passes it
abbrev pub past_unit : End → ℕ → End
past_unit e run =
    with_cursor (after width e.cursor.0 (run + 1))
    (with_sent (cond (ltb (sent_at e) (cursor_at e + (run + 1))) (after width e.cursor.0 (run + 1)) e.sent.0) e)

-- after a replay pair untold is 0 and pending cleared; untold falls once for each idle or control flit
unfoldable pub moved : End → ℕ → End
moved e run =
    cond e.pending (with_untold 0 (with_pending false e))
    (cond (unit_at_cursor e)
    (with_untold (cond (ltb 0 run) (fallen (fallen e.untold.0)) (fallen e.untold.0)) (past_unit e run))
    (with_untold (fallen e.untold.0) e))
