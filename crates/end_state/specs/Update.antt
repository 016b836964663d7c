-- The state with one field anew: "held becomes n" is `with_held n e`. Numbers and counts go in as plain numbers, and are made of
-- their type here.
use Rattle.std.specs.Prelude.{Bool, List, ℕ}
use Rattle.end_state.specs.declared.End.{End}
use Rattle.end_state.specs.declared.Mode.{Mode}

abbrev pub with_information : List ℕ → End → End
with_information v e = record e { information = v }

abbrev pub with_capacity : ℕ → End → End
with_capacity v e = record e { capacity = record { 0 = v } }

abbrev pub with_first : ℕ → End → End
with_first v e = record e { first = v }

abbrev pub with_held : ℕ → End → End
with_held v e = record e { held = record { 0 = v } }

abbrev pub with_kept : ℕ → End → End
with_kept v e = record e { kept = record { 0 = v } }

abbrev pub with_owed : ℕ → End → End
with_owed v e = record e { owed = record { 0 = v } }

abbrev pub with_gathered : ℕ → End → End
with_gathered v e = record e { gathered = record { 0 = v } }

abbrev pub with_untold : ℕ → End → End
with_untold v e = record e { untold = record { 0 = v } }

abbrev pub with_discards : ℕ → End → End
with_discards v e = record e { discards = v }

abbrev pub with_oldest : ℕ → End → End
with_oldest v e = record e { oldest = record { 0 = v } }

abbrev pub with_cursor : ℕ → End → End
with_cursor v e = record e { cursor = record { 0 = v } }

abbrev pub with_sent : ℕ → End → End
with_sent v e = record e { sent = record { 0 = v } }

abbrev pub with_acknowledged : ℕ → End → End
with_acknowledged v e = record e { acknowledged = record { 0 = v } }

abbrev pub with_wanted : ℕ → End → End
with_wanted v e = record e { wanted = record { 0 = v } }

abbrev pub with_position : ℕ → End → End
with_position v e = record e { position = record { 0 = v } }

abbrev pub with_stalled : Bool → End → End
with_stalled v e = record e { stalled = v }

abbrev pub with_pending : Bool → End → End
with_pending v e = record e { pending = v }

abbrev pub with_cause : ℕ → End → End
with_cause v e = record e { cause = v }

abbrev pub with_mode : Mode → End → End
with_mode v e = record e { mode = v }
