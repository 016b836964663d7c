-- The store as a ring of places, and how its control flits cut the held flits into units (01, "What an end keeps").
use Rattle.std.specs.Prelude.{true, false, ◌&&◌, cond, List, ◌++◌, ℕ, zero, suc, ◌+◌, ◌-◌, ◌*◌, ltb, take, drop}
use Rattle.flit_read.specs.Bytes.{read}
use Rattle.flit_read.specs.Fields.{content, run_length, acceptable}
use Rattle.end_state.specs.declared.End.{End}
use Rattle.end_state.specs.declared.walk.Walk.{Walk}

-- the flit at a place, and the store with a flit written there
unfoldable pub flit_at : List ℕ → ℕ → List ℕ
flit_at store place = take 64 (drop (place * 64) store)

unfoldable pub put_at : List ℕ → ℕ → List ℕ → List ℕ
put_at store place flit = take (place * 64) store ++ (flit ++ drop (place * 64 + 64) store)

-- the place n after the first, round a ring of so many places
unfoldable pub ring_place : ℕ → ℕ → ℕ → ℕ
ring_place places first n = cond (ltb (first + n) places) (first + n) (first + n - places)

-- the held flit n after the oldest
abbrev pub stored : End → List ℕ → ℕ → List ℕ
stored e store n = flit_at store (ring_place e.capacity.0 e.first n)

-- a walk over held flits starts before the oldest unit, of which the data flits are known
unfoldable pub walk_begun : ℕ → Walk
walk_begun kept = record { left = kept; run = kept; border = true; sound = true }

-- a data flit is passed; a control flit ends its unit and says how many data flits the next one has
unfoldable pub passed : List ℕ → Walk → Walk
passed flit w =
    cond (ltb 0 w.left)
    (record { left = w.left - 1; run = w.run; border = false; sound = w.sound })
    (record {
      left = read run_length (content flit);
      run = read run_length (content flit);
      border = true;
      sound = w.sound && acceptable flit;
    })

-- the walk over n flits from the first place on
unfoldable pub walk_over : ℕ → ℕ → Walk → List ℕ → ℕ → Walk
walk_over places first w store zero = w
walk_over places first w store (suc n) = passed (flit_at store (ring_place places first n)) (walk_over places first w store n)

-- the walk over the n oldest held flits: whether n is a unit border, the data flits of the unit that begins there, and whether
-- every control flit so far is one that accept takes
abbrev pub walked : End → List ℕ → ℕ → Walk
walked e store n = walk_over e.capacity.0 e.first (walk_begun e.kept.0) store n
