-- What is asked of an arriving flit, step by step of 01, "Receive" 1 to 3.
use Rattle.std.specs.Prelude.{Bool, not, ◌&&◌, ◌||◌, cond, List, ◌++◌, ℕ, ◌+◌, ◌*◌, ltb, leb, eqb, take}
use Rattle.flit_number.specs.Numbers.{width, difference, last_received, wanted_by}
use Rattle.flit_read.specs.Fields.{idle_kind}
use Rattle.flit_read.specs.declared.Fields.{Fields}
use Rattle.end_state.specs.State.{is_run}
use Rattle.end_state.specs.declared.End.{End}

-- ---- which flits are looked at together

-- asked in mode run: not stalled and data owed, so that the flit is held
unfoldable pub holds : End → Bool
holds e = not e.stalled && ltb e.gathered.0 e.owed.0

-- when all owed data is held, the next flit closes the unit
unfoldable pub closes : End → Bool
closes e = not e.stalled && ltb 0 e.owed.0 && eqb e.gathered.0 e.owed.0

-- otherwise, and in mode wait, a flit is checked alone
abbrev pub checked : End → List ℕ → List ℕ → List ℕ
checked e hold flit = cond (is_run e.mode && closes e) (take (e.gathered.0 * 64) hold ++ flit) flit

-- ---- 1. damaged

-- a closing flit's run length over 8, or under 9 while stalled
unfoldable pub run_wrong : End → Fields → Bool
run_wrong e f = (closes e && ltb 8 f.run.0) || (e.stalled && ltb f.run.0 9)

-- an idle's stalled run length differs from owed
unfoldable pub stall_wrong : End → Fields → Bool
stall_wrong e f = eqb f.run.0 idle_kind && not (eqb f.stall.0 e.owed.0)

-- how far the number of the next arriving flit lies before wanted
abbrev pub behind : End → ℕ → ℕ
behind e position = difference width e.wanted.0 position

-- the unit would begin before wanted and end after it
unfoldable pub straddles : End → Fields → Bool
straddles e f =
    leb f.run.0 8 && ltb 0 (behind e e.position.0) && ltb (behind e e.position.0) (e.gathered.0 + 1)

unfoldable pub damaged : End → Fields → Bool → Bool
damaged e f correct = not correct || run_wrong e f || stall_wrong e f || straddles e f

-- ---- 2. skipped
unfoldable pub skips : Fields → Bool
skips f = eqb f.run.0 9 || (leb 11 f.run.0 && leb f.run.0 14)

-- ---- what is acknowledged

-- the flits that an acknowledge number newly covers
unfoldable pub newly_covered : End → ℕ → ℕ
newly_covered e last = difference width (wanted_by last_received width last) e.acknowledged.0

-- an acknowledgement of n more flits is below what is already acknowledged or past sent exactly when n, modulo 65536, is more than
-- the flits sent and not yet acknowledged
unfoldable pub past_sent : End → ℕ → Bool
past_sent e n = ltb (difference width e.sent.0 e.acknowledged.0) n
