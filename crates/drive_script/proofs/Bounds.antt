-- For callers: the values of a command are in range, and the bytes of a line are as many as its command says.
use mathlib.Core.Bool.{Bool, true, false, ◌&&◌, cond}
use Rattle.std.proofs.Common.{Option, Some, None, unwrap_or}
use Rattle.std.proofs.lemmas.Option.{none-some, same_Some}
use mathlib.Core.List.{List, [], ◌∷◌}
use mathlib.Core.Path.{◌≡◌, refl, ap, sym, subst, ◌∙◌}
use Prim.Native.Nat.{ℕ, ◌≤◌}
use native.Mathlib.Omega.{arith}
use lib.ListN.{length}
use Rattle.text.specs.Text.{ascii}
use Rattle.end_state.proofs.Tests.{and_l, and_r}
use Rattle.drive_token.specs.Tokens.{tokens, last, same, is_decimal, is_number, value, offset_value, is_bytes, pairs}
use Rattle.drive_token.proofs.Figures.{number_most, length_pairs, pairs_most, dash_none, other_bytes}
use Rattle.drive_name.specs.Names.{end_of, field_of, most, key_of}
use Rattle.drive_name.specs.declared.Which.{Which}
use Rattle.drive_name.specs.declared.Which.TheVariants as which
use Rattle.drive_name.specs.declared.EndField.{EndField}
use Rattle.drive_name.specs.declared.Key.{Key}
use Rattle.drive_script.specs.declared.Line.{Line}
use Rattle.drive_script.specs.declared.Command.{Command}
use Rattle.drive_script.specs.declared.Command.TheVariants as command
use Rattle.drive_script.specs.Script.{start_command, accept_command, send_command, receive_command, poke_command, fill_command, lend_command, count_command, command_of}
use Rattle.drive_script.specs.Script.{for_end, for_named, line_named, line_from, line_of, hex_carried, bytes_of, bytes_in, InRange}
use Rattle.drive_script.proofs.Lines.{all_taken}

-- ---- what a command is

-- its values in range, and as many bytes as it says in the last token
abbrev Fits : Command → List ℕ → Type 0
Fits c hex = InRange c × (length (hex_carried c hex) ≡ bytes_in c)

few_by : (t : List ℕ) (b : Bool) → same t (ascii "-") ≡ b → is_bytes t ≡ true → length (pairs t) ≤ 2000
few_by t true e h = omega (arith, ap length (dash_none t e))
few_by t false e h = omega (arith, length_pairs t, pairs_most t (sym (other_bytes t e) ∙ h))

few : (t : List ℕ) → is_bytes t ≡ true → length (pairs t) ≤ 2000
few t h = few_by t (same t (ascii "-")) refl h

-- the same of a command that may be none
abbrev Fitted : Option Command → List ℕ → Type 0
Fitted c hex = (d : Command) → c ≡ Some d → Fits d hex

bad_fits : (hex : List ℕ) → Fits command.Bad hex
unfolding InRange hex_carried bytes_in
bad_fits hex = (tt, refl)

none_fits : (hex : List ℕ) → Fitted None hex
none_fits hex d h = absurd (none-some d h)

one_fits : (hex : List ℕ) (c : Command) → Fits c hex → Fitted (Some c) hex
one_fits hex c f d h = subst (λ (x : Command). Fits x hex) (same_Some c d h) f

or_none : (hex : List ℕ) (b : Bool) (c : Command) → (b ≡ true → Fits c hex) → Fitted (cond b (Some c) None) hex
or_none hex true c f = one_fits hex c (f refl)
or_none hex false c f = none_fits hex

or_other : (hex : List ℕ) (b : Bool) (c d : Option Command) → Fitted c hex → Fitted d hex → Fitted (cond b c d) hex
or_other hex true c d p q = p
or_other hex false c d p q = q

start_fits : (len hex : List ℕ) → Fitted (start_command len) hex
unfolding start_command InRange hex_carried bytes_in
start_fits len hex = or_none hex (is_number 70000 len) (command.Start (value len)) (λ h. (number_most 70000 len h, refl))

accept_fits : (hex : List ℕ) → Fitted (accept_command hex) hex
unfolding accept_command InRange hex_carried bytes_in
accept_fits hex = or_none hex (is_bytes hex) (command.Accept (length (pairs hex))) (λ h. (few hex h, ap length (all_taken hex)))

send_fits : (len errors info hex : List ℕ) → Fitted (send_command len errors info) hex
unfolding send_command InRange hex_carried bytes_in
send_fits len errors info hex =
    let a = is_number 2000 len in
    let b = is_number 255 errors in
    let c = is_number 18446744073709551615 info in
    or_none hex (a && b && c) (command.Send (value len) (value errors) (value info))
    (λ h. (number_most 2000 len (and_l a b (and_l (a && b) c h)), refl))

receive_fits : (hex : List ℕ) → Fitted (receive_command hex) hex
unfolding receive_command InRange hex_carried bytes_in
receive_fits hex = or_none hex (is_bytes hex) (command.Receive (length (pairs hex))) (λ h. (few hex h, ap length (all_taken hex)))

poke_fits : (n : Option EndField) (v hex : List ℕ) → Fitted (poke_command n v) hex
unfolding poke_command InRange hex_carried bytes_in
poke_fits (Some f) v hex =
    or_none hex (is_number (most f) v) (command.Poke f (value v)) (λ h. (number_most (most f) v h, refl))
poke_fits None v hex = none_fits hex

fill_fits : (offset hex : List ℕ) → Fitted (fill_command offset hex) hex
unfolding fill_command InRange hex_carried bytes_in
fill_fits offset hex =
    let a = is_decimal offset in
    let b = is_bytes hex in
    or_none hex (a && b) (command.Fill (offset_value offset) (length (pairs hex))) (λ h. (few hex (and_r a b h), ap length (all_taken hex)))

lend_fits : (store hold hex : List ℕ) → Fitted (lend_command store hold) hex
unfolding lend_command InRange hex_carried bytes_in
lend_fits store hold hex =
    let a = is_number 70000 store in
    let b = is_number 2000 hold in
    or_none hex (a && b) (command.Lend (value store) (value hold))
    (λ h. ((number_most 70000 store (and_l a b h), number_most 2000 hold (and_r a b h)), refl))

count_fits : (n : Option Key) (v hex : List ℕ) → Fitted (count_command n v) hex
unfolding count_command InRange hex_carried bytes_in
count_fits (Some k) v hex = or_none hex (is_number 4294967295 v) (command.Count k (value v)) (λ _. (tt, refl))
count_fits None v hex = none_fits hex

ticket_fits : (b : Bool) (hex : List ℕ) → Fitted (cond b (Some command.Ticket) None) hex
unfolding InRange hex_carried bytes_in
ticket_fits b hex = or_none hex b command.Ticket (λ _. (tt, refl))

command_fits : (op : List ℕ) (ts : List (List ℕ)) → Fitted (command_of op ts) (last ts)
unfolding command_of last
command_fits op [] = ticket_fits (same op (ascii "ticket")) []
command_fits op (a ∷ []) =
    or_other a (same op (ascii "start")) (start_command a) _ (start_fits a a)
    (or_other a (same op (ascii "accept")) (accept_command a) _ (accept_fits a)
    (or_other a (same op (ascii "receive")) (receive_command a) None (receive_fits a) (none_fits a)))
command_fits op (a ∷ b ∷ []) =
    or_other b (same op (ascii "poke")) (poke_command (field_of a) b) _ (poke_fits (field_of a) b b)
    (or_other b (same op (ascii "fill")) (fill_command a b) _ (fill_fits a b)
    (or_other b (same op (ascii "lend")) (lend_command a b) _ (lend_fits a b b)
    (or_other b (same op (ascii "count")) (count_command (key_of a) b) None (count_fits (key_of a) b b) (none_fits b))))
command_fits op (a ∷ b ∷ c ∷ []) = or_other c (same op (ascii "send")) (send_command a b c) None (send_fits a b c c) (none_fits c)
command_fits op (a ∷ b ∷ c ∷ d ∷ ts) = none_fits (last (a ∷ b ∷ c ∷ d ∷ ts))

-- the line for an end, and the bad one where none is named
abbrev whole : Option Line → Line
whole l = unwrap_or l (for_end which.A command.Bad)

or_bad : (c : Option Command) (hex : List ℕ) → Fitted c hex → Fits (unwrap_or c command.Bad) hex
or_bad (Some c) hex f = f c refl
or_bad None hex f = bad_fits hex

for_fits : (n : Option Which) (c : Option Command) (hex : List ℕ) → Fitted c hex → Fits (whole (for_named n c)).command hex
unfolding for_named
for_fits (Some w) c hex f = or_bad c hex f
for_fits None c hex f = bad_fits hex

from_fits : (ts : List (List ℕ)) → Fits (whole (line_from ts)).command (last ts)
unfolding line_from command_of last
from_fits [] = bad_fits []
from_fits (op ∷ []) = bad_fits op
from_fits (op ∷ e ∷ []) = for_fits (end_of e) (command_of op []) e (ticket_fits (same op (ascii "ticket")) e)
from_fits (op ∷ e ∷ a ∷ ts) = for_fits (end_of e) (command_of op (a ∷ ts)) (last (a ∷ ts)) (command_fits op (a ∷ ts))

-- ---- for callers

-- the values of the command of a line are in range
pub line_within : (line : List ℕ) (c : Command) → (line_of line).command ≡ c → InRange c
unfolding line_of line_named
line_within line c e = subst (λ (d : Command). InRange d) e (from_fits (tokens line)).0

-- the bytes of a line are as many as its command says
pub length_bytes : (line : List ℕ) (c : Command) → (line_of line).command ≡ c → length (bytes_of line) ≡ bytes_in c
unfolding line_of line_named bytes_of
length_bytes line c e = (from_fits (tokens line)).1 ∙ ap bytes_in e
