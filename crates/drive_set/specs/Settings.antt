-- What the commands poke, lend and count set in a side.
use Rattle.std.specs.Prelude.{ℕ}
use Rattle.drive_name.specs.declared.EndField.{EndField}
use Rattle.drive_name.specs.declared.Key.{Key}
use Rattle.drive_poke.specs.Pokes.{poked, with_count}
use Rattle.drive_side.specs.declared.Side.{Side}

unfoldable pub side_poked : Side → EndField → ℕ → Side
side_poked s f v = record s { end = poked s.end f v }

unfoldable pub side_lent : Side → ℕ → ℕ → Side
side_lent s store hold = record s { store = store; hold = hold }

unfoldable pub side_counted : Side → Key → ℕ → Side
side_counted s k n = record s { ticket = with_count s.ticket k n }
