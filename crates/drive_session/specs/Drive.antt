-- Driving two ends from text: what the bytes of an input do, one after the other.
use Rattle.std.specs.Prelude.{cond, List, [], ◌++◌, ℕ, zero, suc, ◌+◌, leb, eqb, length, get_or}
use Rattle.drive_call.specs.Sides.{Kept}
use Rattle.drive_line.specs.Lines.{start_line}
use Rattle.drive_pair.specs.Pair.{State, PairStep, ended, byte}

-- before its first start an end is as after start E 0
unfoldable pub unstarted : Kept
unstarted = (start_line 0).kept

unfoldable pub drive_begun : State
drive_begun = record { a = unstarted; b = unstarted; line = [] }

-- the first n bytes of an input
unfoldable pub session : State → List ℕ → ℕ → PairStep
session s input zero = record { state = s; lines = [] }
session s input (suc n) =
    record {
      state = (byte (session s input n).state (get_or input n 0)).state;
      lines = (session s input n).lines ++ (byte (session s input n).state (get_or input n 0)).lines;
    }

-- how many bytes of an input are taken in n tries, into an output of so many bytes: one more in each, while a line more has room
unfoldable pub taken : State → List ℕ → ℕ → ℕ → ℕ
taken s input room zero = 0
taken s input room (suc n) =
    cond (leb (length (session s input (taken s input room n)).lines + 8192) room) (suc (taken s input room n)) (taken s input room n)

-- the end of the input: the last line may lack its line feed
unfoldable pub finished : State → PairStep
finished s = cond (eqb (length s.line) 0) (record { state = s; lines = [] }) (ended s)

-- all that is printed for an input
unfoldable pub printed_for : List ℕ → List ℕ
printed_for input = (session drive_begun input (length input)).lines ++ (finished (session drive_begun input (length input)).state).lines
