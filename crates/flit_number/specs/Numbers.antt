-- Numbers of TL flits (01, "Numbers"). They count 0, 1, 2, .. and begin again after 2 ^ k - 1, where k is the width of the
-- edition's number fields: 16 for DL 3.0/4.0, 12 for DL 3.1. What an acknowledge number names differs between the two as well,
-- so both are parameters here.
use Rattle.std.specs.Prelude.{ℕ, ◌+◌, ◌-◌, ◌%◌, ◌^◌}

-- the width of this edition's sequence numbers: they begin again after 65535
abbrev pub width : ℕ
width = 16

-- the number that stands n flits after a
unfoldable pub after : ℕ → ℕ → ℕ → ℕ
after k a n = (a + n) % 2 ^ k

-- a - b modulo 2 ^ k: how many flits lead from b to a
unfoldable pub difference : ℕ → ℕ → ℕ → ℕ
difference k a b = (a + (2 ^ k - b)) % 2 ^ k

-- what an acknowledge number names: the last number received (DL 3.0/4.0) or the next one wanted (DL 3.1)
pub data Meaning : Type 0 where
  last_received next_wanted : Meaning

-- the acknowledge number that an end sends which wants the number w next
unfoldable pub acknowledge_for : Meaning → ℕ → ℕ → ℕ
acknowledge_for last_received k w = difference k w 1
acknowledge_for next_wanted k w = w

-- the number that the sender of the acknowledge number a wants next: the first one that a does not acknowledge
unfoldable pub wanted_by : Meaning → ℕ → ℕ → ℕ
wanted_by last_received k a = after k a 1
wanted_by next_wanted k a = a
