-- What each command of a script does to an end, and the line that it prints.
use Rattle.std.specs.Prelude.{cond, List, ◌++◌, ℕ, take}
use Rattle.text.specs.Text.{ascii, key_value}
use Rattle.drive_state.specs.Show.{state_text, ticket_text}
use Rattle.drive_head.specs.Heads.{send_head, receive_head}
use Rattle.end_state.specs.State.{verdict_number}
use Rattle.drive_name.specs.declared.EndField.{EndField}
use Rattle.drive_name.specs.declared.Key.{Key}
use Rattle.drive_script.specs.Script.{bytes_in}
use Rattle.drive_script.specs.declared.Command.{Command}
use Rattle.drive_script.specs.declared.Command.TheVariants as command
use Rattle.drive_set.specs.Settings.{side_poked, side_lent, side_counted}
use Rattle.drive_side.specs.declared.Side.{Side}
use Rattle.drive_call.specs.Sides.{Kept, side_started, accepts, sends, sends_output, receives, fills}

-- what a command leaves, and its line
pub record Did : Type 0 where
  pub kept : Kept
  pub line : List ℕ

-- STATE
abbrev pub state_of : Kept → List ℕ
state_of k = state_text k.side.end k.store k.hold

-- what comes before STATE, and STATE
unfoldable pub stated : List ℕ → Kept → Did
stated head k = record { kept = k; line = head ++ state_of k }

-- a line that is no command, or has a value out of range, changes nothing
abbrev pub bad_line : List ℕ
bad_line = ascii "bad\n"

unfoldable pub bad : Kept → Did
bad k = record { kept = k; line = bad_line }

-- ---- the commands: OP refuse=N [flits=K out=HEX] [answer=WORD data=K] STATE

unfoldable pub start_line : ℕ → Did
start_line bytes = stated (key_value "start refuse=" (verdict_number (side_started bytes).answer)) (side_started bytes).kept

unfoldable pub accept_line : Kept → List ℕ → Did
accept_line k unit = stated (key_value "accept refuse=" (verdict_number (accepts k unit).answer)) (accepts k unit).kept

unfoldable pub send_line : Kept → ℕ → ℕ → ℕ → Did
send_line k output errors information =
    stated (send_head (sends k output).answer (sends_output k output errors information)) (sends k output).kept

unfoldable pub receive_line : Kept → List ℕ → Did
receive_line k flit = stated (receive_head (receives k flit).answer) (receives k flit).kept

unfoldable pub poke_line : Kept → EndField → ℕ → Did
poke_line k f v = stated (key_value "poke refuse=" 0) (record { side = side_poked k.side f v; store = k.store; hold = k.hold })

unfoldable pub fill_line : Kept → ℕ → List ℕ → Did
fill_line k offset bytes = cond (fills k offset bytes).answer (stated (key_value "fill refuse=" 0) (fills k offset bytes).kept) (bad k)

unfoldable pub lend_line : Kept → ℕ → ℕ → Did
lend_line k store hold = stated (key_value "lend refuse=" 0) (record { side = side_lent k.side store hold; store = k.store; hold = k.hold })

-- ticket prints the ticket and no state
abbrev pub ticket_line : Side → List ℕ
ticket_line s = ticket_text s.ticket

unfoldable pub count_line : Kept → Key → ℕ → Did
count_line k key n = stated (key_value "count refuse=" 0) (record { side = side_counted k.side key n; store = k.store; hold = k.hold })

-- a command, with the bytes of its HEX
unfoldable pub commanded : Kept → Command → List ℕ → Did
commanded k command.Bad bytes = bad k
commanded k (command.Start n) bytes = start_line n
commanded k (command.Accept n) bytes = accept_line k bytes
commanded k (command.Send n errors information) bytes = send_line k n errors information
commanded k (command.Receive n) bytes = receive_line k bytes
commanded k (command.Poke f v) bytes = poke_line k f v
commanded k (command.Fill offset n) bytes = fill_line k offset bytes
commanded k (command.Lend store hold) bytes = lend_line k store hold
commanded k command.Ticket bytes = record { kept = k; line = ticket_line k.side }
commanded k (command.Count key n) bytes = count_line k key n

-- the bytes of HEX stand at the start of a buffer
abbrev pub commanded_from : Kept → Command → List ℕ → Did
commanded_from k c buffer = commanded k c (take (bytes_in c) buffer)
