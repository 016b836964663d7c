-- The script format: what one line, without its line feed, asks for. How long a line may be is not asked here.
use Rattle.std.specs.Prelude.{Option, Some, None, unwrap_or, ◌&&◌, cond, List, [], ◌∷◌, ℕ, ◌≤◌, length, take}
use Rattle.text.specs.Text.{ascii}
use Rattle.drive_token.specs.Tokens.{tokens, last, same, value, is_decimal, is_number, offset_value, is_bytes, pairs}
use Rattle.drive_name.specs.Names.{end_of, field_of, most, key_of}
use Rattle.drive_name.specs.declared.Which.{Which}
use Rattle.drive_name.specs.declared.Which.TheVariants as which
use Rattle.drive_name.specs.declared.EndField.{EndField}
use Rattle.drive_name.specs.declared.Key.{Key}
use Rattle.drive_script.specs.declared.Command.{Command}
use Rattle.drive_script.specs.declared.Command.TheVariants as command
use Rattle.drive_script.specs.declared.Line.{Line}

-- ---- the commands, each with its arguments after the end E, and none where they do not fit it

-- start E LEN
unfoldable pub start_command : List ℕ → Option Command
start_command len = cond (is_number 70000 len) (Some (command.Start (value len))) None

-- accept E HEX
unfoldable pub accept_command : List ℕ → Option Command
accept_command hex = cond (is_bytes hex) (Some (command.Accept (length (pairs hex)))) None

-- send E LEN ERRORS INFO
unfoldable pub send_command : List ℕ → List ℕ → List ℕ → Option Command
send_command len errors info =
    cond (is_number 2000 len && is_number 255 errors && is_number 18446744073709551615 info)
    (Some (command.Send (value len) (value errors) (value info)))
    None

-- receive E HEX
unfoldable pub receive_command : List ℕ → Option Command
receive_command hex = cond (is_bytes hex) (Some (command.Receive (length (pairs hex)))) None

-- poke E FIELD VALUE
unfoldable pub poke_command : Option EndField → List ℕ → Option Command
poke_command (Some f) v = cond (is_number (most f) v) (Some (command.Poke f (value v))) None
poke_command None v = None

-- fill E OFFSET HEX; whether the bytes lie inside the store is not asked here
unfoldable pub fill_command : List ℕ → List ℕ → Option Command
fill_command offset hex =
    cond (is_decimal offset && is_bytes hex) (Some (command.Fill (offset_value offset) (length (pairs hex)))) None

-- lend E STORELEN HOLDLEN
unfoldable pub lend_command : List ℕ → List ℕ → Option Command
lend_command store hold =
    cond (is_number 70000 store && is_number 2000 hold) (Some (command.Lend (value store) (value hold))) None

-- count E KEY VALUE
unfoldable pub count_command : Option Key → List ℕ → Option Command
count_command (Some k) v = cond (is_number 4294967295 v) (Some (command.Count k (value v))) None
count_command None v = None

-- the command of its word and its arguments
unfoldable pub command_of : List ℕ → List (List ℕ) → Option Command
command_of op [] = cond (same op (ascii "ticket")) (Some command.Ticket) None
command_of op (a ∷ []) =
    cond (same op (ascii "start")) (start_command a)
    (cond (same op (ascii "accept")) (accept_command a)
    (cond (same op (ascii "receive")) (receive_command a)
    None))
command_of op (a ∷ b ∷ []) =
    cond (same op (ascii "poke")) (poke_command (field_of a) b)
    (cond (same op (ascii "fill")) (fill_command a b)
    (cond (same op (ascii "lend")) (lend_command a b)
    (cond (same op (ascii "count")) (count_command (key_of a) b)
    None)))
command_of op (a ∷ b ∷ c ∷ []) = cond (same op (ascii "send")) (send_command a b c) None
command_of op (a ∷ b ∷ c ∷ d ∷ ts) = None

-- ---- the line

abbrev pub for_end : Which → Command → Line
for_end w c = record { which = w; command = c }

-- the line for an end, if one is named; what is no command is a bad one
unfoldable pub for_named : Option Which → Option Command → Option Line
for_named (Some w) c = Some (for_end w (unwrap_or c command.Bad))
for_named None c = None

-- the command's word, then E, then the arguments
unfoldable pub line_from : List (List ℕ) → Option Line
line_from [] = None
line_from (op ∷ []) = None
line_from (op ∷ e ∷ arguments) = for_named (end_of e) (command_of op arguments)

-- a line that names an end
unfoldable pub line_named : List ℕ → Option Line
line_named line = line_from (tokens line)

-- a line that names none is a bad one for end a
unfoldable pub line_of : List ℕ → Line
line_of line = unwrap_or (line_named line) (for_end which.A command.Bad)

-- ---- the bytes

-- the number of bytes of a command's HEX
unfoldable pub bytes_in : Command → ℕ
bytes_in command.Bad = 0
bytes_in (command.Start n) = 0
bytes_in (command.Accept n) = n
bytes_in (command.Send n errors information) = 0
bytes_in (command.Receive n) = n
bytes_in (command.Poke f v) = 0
bytes_in (command.Fill offset n) = n
bytes_in (command.Lend store hold) = 0
bytes_in command.Ticket = 0
bytes_in (command.Count key n) = 0

-- HEX is the last argument of the commands that have one
unfoldable pub hex_carried : Command → List ℕ → List ℕ
hex_carried c hex = take (bytes_in c) (pairs hex)

-- the same, where there may be no command
unfoldable pub hex_of : Option Command → List ℕ → List ℕ
hex_of (Some c) hex = hex_carried c hex
hex_of None hex = []

unfoldable pub bytes_of : List ℕ → List ℕ
bytes_of line = hex_carried (line_of line).command (last (tokens line))

-- ---- the values

-- the values of a command are in range
unfoldable pub InRange : Command → Type 0
InRange command.Bad = Unit
InRange (command.Start n) = n ≤ 70000
InRange (command.Accept n) = n ≤ 2000
InRange (command.Send n errors information) = n ≤ 2000
InRange (command.Receive n) = n ≤ 2000
InRange (command.Poke f v) = v ≤ most f
InRange (command.Fill offset n) = n ≤ 2000
InRange (command.Lend store hold) = (store ≤ 70000) × (hold ≤ 2000)
InRange command.Ticket = Unit
InRange (command.Count key n) = Unit
