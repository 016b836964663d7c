-- What the commands poke and count set.
use Rattle.std.specs.Prelude.{cond, ℕ, eqb, set}
use Rattle.end_state.specs.Update.{with_information, with_capacity, with_first, with_held, with_kept, with_owed, with_gathered, with_untold, with_discards, with_oldest, with_cursor, with_sent, with_acknowledged, with_wanted, with_position, with_stalled, with_pending, with_cause, with_mode}
use Rattle.end_state.specs.declared.End.{End}
use Rattle.end_state.specs.declared.Mode.{Mode}
use Rattle.end_state.specs.declared.Mode.TheVariants.{Run, Wait, Down}
use Rattle.ticket.specs.declared.Ticket.{Ticket}
use Rattle.drive_name.specs.declared.EndField.{EndField}
use Rattle.drive_name.specs.declared.EndField.TheVariants as field
use Rattle.drive_name.specs.declared.Key.{Key}
use Rattle.drive_name.specs.declared.Key.TheVariants as key

-- the state with a field set, by the names of the output line; 0 run, 1 wait, 2 down
unfoldable pub mode_of : ℕ → Mode
mode_of n = cond (eqb n 0) Run (cond (eqb n 1) Wait Down)

unfoldable pub poked : End → EndField → ℕ → End
poked e field.Capacity v = with_capacity v e
poked e field.First v = with_first v e
poked e field.Held v = with_held v e
poked e field.Kept v = with_kept v e
poked e field.Oldest v = with_oldest v e
poked e field.Cursor v = with_cursor v e
poked e field.Sent v = with_sent v e
poked e field.Acked v = with_acknowledged v e
poked e field.Wanted v = with_wanted v e
poked e field.Position v = with_position v e
poked e field.Owed v = with_owed v e
poked e field.Stalled v = with_stalled (eqb v 1) e
poked e field.Data v = with_gathered v e
poked e field.Untold v = with_untold v e
poked e field.Mode v = with_mode (mode_of v) e
poked e field.Cause v = with_cause v e
poked e field.Discards v = with_discards v e
poked e field.Pending v = with_pending (eqb v 1) e
poked e (field.Info i) v = with_information (set e.information i v) e

-- the ticket with a count set
abbrev pub with_count : Ticket → Key → ℕ → Ticket
with_count t key.Accepted n = record t { accepted = n }
with_count t key.Delivered n = record t { delivered = n }
with_count t key.Damaged n = record t { damaged = n }
with_count t key.Duplicate n = record t { duplicate = n }
with_count t key.Downs n = record t { downs = n }
