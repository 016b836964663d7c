-- The fresh end and start, tests of the mode, and the numbers of the refusals (01, "What an end keeps"; "Refusals by number").
use Rattle.std.specs.Prelude.{Bool, true, false, ◌&&◌, cond, ℕ, ◌/◌, ◌%◌, leb, eqb, replicate, Result, Ok, Err}
use Rattle.end_state.specs.declared.End.{End}
use Rattle.end_state.specs.declared.Answered.{Answered}
use Rattle.end_state.specs.declared.Mode.{Mode}
use Rattle.end_state.specs.declared.Mode.TheVariants.{Run, Wait, Down}
use Rattle.end_state.specs.declared.Refusal.{Refusal}
use Rattle.end_state.specs.declared.Refusal.TheVariants as refusal

-- the number of a refusal
abbrev pub refusal_number : Refusal → ℕ
refusal_number refusal.Store = 1
refusal_number refusal.State = 2
refusal_number refusal.Shape = 3
refusal_number refusal.Out = 4
refusal_number refusal.Down = 5
refusal_number refusal.Run = 6
refusal_number refusal.Field = 7
refusal_number refusal.Full = 8

-- what a call returns: the number of its refusal, or 0
abbrev pub verdict_number : {A : Type 0} → Result A Refusal → ℕ
verdict_number (Err r) = refusal_number r
verdict_number (Ok a) = 0

-- capacity C is 9 to 1,024 flits: a store of 64 C bytes
unfoldable pub store_fits : ℕ → Bool
store_fits bytes = eqb (bytes % 64) 0 && leb 9 (bytes / 64) && leb (bytes / 64) 1024

-- fresh, every number, count and place is 0, no mark is set and the mode is run
unfoldable pub fresh : ℕ → End
fresh capacity =
    record {
      information = replicate 8 0;
      capacity = record { 0 = capacity };
      first = 0;
      held = record { 0 = 0 };
      kept = record { 0 = 0 };
      owed = record { 0 = 0 };
      gathered = record { 0 = 0 };
      untold = record { 0 = 0 };
      discards = 0;
      oldest = record { 0 = 0 };
      cursor = record { 0 = 0 };
      sent = record { 0 = 0 };
      acknowledged = record { 0 = 0 };
      wanted = record { 0 = 0 };
      position = record { 0 = 0 };
      stalled = false;
      pending = false;
      cause = 0;
      mode = Run;
    }

-- start refuses with STORE, and then gives a state of capacity 0
unfoldable pub start : ℕ → Answered (Result (Unit {0}) Refusal)
start bytes =
    cond (store_fits bytes)
    (record { answer = Ok tt; end = fresh (bytes / 64) })
    (record { answer = Err refusal.Store; end = fresh 0 })

-- tests of the mode
abbrev pub is_run : Mode → Bool
is_run Run = true
is_run Wait = false
is_run Down = false

abbrev pub is_wait : Mode → Bool
is_wait Run = false
is_wait Wait = true
is_wait Down = false
