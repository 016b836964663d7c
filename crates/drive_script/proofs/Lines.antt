-- The bytes that a command carries.
use Rattle.std.proofs.Common.{◌≡◌, refl, ap, sym, ◌∙◌, Bor, Bool, true, false, cond, ◌&&◌, List, [], ◌∷◌, ℕ, Option, Some, None, unwrap_or, arith, length, take}
use lib.Seq.{take_all}
use Rattle.text.specs.Text.{ascii}
use Rattle.drive_token.specs.Tokens.{tokens, tokens_in, last, same, value, offset_value, is_number, is_decimal, is_bytes, pairs}
use Rattle.drive_token.proofs.Cuts.{tokens_some, last_more, last_tokens}
use Rattle.drive_name.specs.declared.EndField.{EndField}
use Rattle.drive_name.specs.declared.Key.{Key}
use Rattle.drive_name.specs.Names.{most}
use Rattle.drive_script.specs.declared.Command.{Command}
use Rattle.drive_script.specs.declared.Command.TheVariants as command
use Rattle.drive_script.specs.Script.{start_command, accept_command, send_command, receive_command, poke_command, fill_command, lend_command, count_command, command_of}
use Rattle.drive_script.specs.Script.{hex_carried, hex_of, bytes_in}

pub all_taken : (hex : List ℕ) → take (length (pairs hex)) (pairs hex) ≡ pairs hex
all_taken hex = take_all (length (pairs hex)) (pairs hex) (omega arith)

-- a command that carries nothing, or is none
none : (b : Bool) (c : Command) (hex : List ℕ) → hex_carried c hex ≡ [] → hex_of (cond b (Some c) None) hex ≡ []
unfolding hex_of
none true c hex h = h
none false c hex h = refl

-- a command that carries its HEX, or is none
some : (b : Bool) (c : Command) (hex : List ℕ) → hex_carried c hex ≡ pairs hex → hex_of (cond b (Some c) None) hex ≡ cond b (pairs hex) []
unfolding hex_of
some true c hex h = h
some false c hex h = refl

pub none_carried : (hex : List ℕ) → hex_of None hex ≡ []
unfolding hex_of
none_carried hex = refl

pub start_none : (len hex : List ℕ) → hex_of (start_command len) hex ≡ []
unfolding start_command hex_carried bytes_in
start_none len hex = none (is_number 70000 len) (command.Start (value len)) hex refl

pub send_none : (len errors info hex : List ℕ) → hex_of (send_command len errors info) hex ≡ []
unfolding send_command hex_carried bytes_in
send_none len errors info hex =
    none (is_number 2000 len && is_number 255 errors && is_number 18446744073709551615 info)
    (command.Send (value len) (value errors) (value info)) hex refl

pub accept_some : (hex : List ℕ) → hex_of (accept_command hex) hex ≡ cond (is_bytes hex) (pairs hex) []
unfolding accept_command hex_carried bytes_in
accept_some hex = some (is_bytes hex) (command.Accept (length (pairs hex))) hex (all_taken hex)

pub receive_some : (hex : List ℕ) → hex_of (receive_command hex) hex ≡ cond (is_bytes hex) (pairs hex) []
unfolding receive_command hex_carried bytes_in
receive_some hex = some (is_bytes hex) (command.Receive (length (pairs hex))) hex (all_taken hex)

pub poke_none : (f : Option EndField) (v hex : List ℕ) → hex_of (poke_command f v) hex ≡ []
unfolding poke_command hex_of hex_carried bytes_in
poke_none (Some f) v hex = none (is_number (most f) v) (command.Poke f (value v)) hex refl
poke_none None v hex = refl

pub fill_none : (offset hex : List ℕ) → is_decimal offset ≡ false → hex_of (fill_command offset hex) hex ≡ []
unfolding fill_command hex_of
fill_none offset hex h = simp h

pub fill_some : (offset hex : List ℕ) → is_decimal offset ≡ true
    → hex_of (fill_command offset hex) hex ≡ cond (is_bytes hex) (pairs hex) []
unfolding fill_command hex_carried bytes_in
fill_some offset hex h = rw h (some (is_bytes hex) (command.Fill (offset_value offset) (length (pairs hex))) hex (all_taken hex))

pub lend_none : (store hold hex : List ℕ) → hex_of (lend_command store hold) hex ≡ []
unfolding lend_command hex_carried bytes_in
lend_none store hold hex =
    none (is_number 70000 store && is_number 2000 hold) (command.Lend (value store) (value hold)) hex refl

pub count_none : (k : Option Key) (v hex : List ℕ) → hex_of (count_command k v) hex ≡ []
unfolding count_command hex_of hex_carried bytes_in
count_none (Some k) v hex = none (is_number 4294967295 v) (command.Count k (value v)) hex refl
count_none None v hex = refl

pub ticket_none : (b : Bool) (hex : List ℕ) → hex_of (cond b (Some command.Ticket) None) hex ≡ []
unfolding hex_carried bytes_in
ticket_none b hex = none b command.Ticket hex refl

pub three_none : (b : Bool) (len errors info hex : List ℕ) → hex_of (cond b (send_command len errors info) None) hex ≡ []
three_none true len errors info hex = send_none len errors info hex
three_none false len errors info hex = none_carried hex

too_many : (op a b c t : List ℕ) (ts : List (List ℕ)) → command_of op (a ∷ b ∷ c ∷ t ∷ ts) ≡ None
unfolding command_of
too_many op a b c t ts = refl

-- there are no more than three arguments
pub four_none : (op a b c s : List ℕ) → command_of op (a ∷ b ∷ c ∷ tokens s) ≡ None
four_none op a b c s = tokens_some (λ (l : List (List ℕ)). command_of op (a ∷ b ∷ c ∷ l) ≡ None) (too_many op a b c) s

-- ---- a line carries what its command does

pub bad_carried : (hex : List ℕ) → hex_carried command.Bad hex ≡ []
unfolding hex_carried bytes_in
bad_carried hex = refl

pub carried_or_bad : (c : Option Command) (hex : List ℕ) → hex_carried (unwrap_or c command.Bad) hex ≡ hex_of c hex
unfolding hex_of
carried_or_bad (Some c) hex = refl
carried_or_bad None hex = bad_carried hex

pub last_carried : (op e : List ℕ) (more : Option (Bor (List ℕ)))
    → hex_of (command_of op (tokens_in more)) (last (op ∷ e ∷ tokens_in more)) ≡ hex_of (command_of op (tokens_in more)) (last (tokens_in more))
unfolding command_of
last_carried op e None =
    ticket_none (same op (ascii "ticket")) (last (op ∷ e ∷ [])) ∙ sym (ticket_none (same op (ascii "ticket")) (last []))
last_carried op e (Some s) =
    ap (hex_of (command_of op (tokens s.now))) (last_more op e (tokens s.now) ∙ last_tokens e s.now)
