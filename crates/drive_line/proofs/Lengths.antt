-- That the flits written are inside the output, and how long a line is.
use mathlib.Core.List.{List, ◌++◌}
use mathlib.Core.Path.{◌≡◌, refl}
use Prim.Native.Nat.{ℕ, ◌*◌, ◌≤◌}
use native.Mathlib.Omega.{arith}
use lib.ListN.{length, length-append}
use Rattle.text.specs.Text.{ascii, decimal, key_value}
use Rattle.text.proofs.Laws.{length_decimal}
use Rattle.drive_state.proofs.Laws.{state_short, ticket_short}
use Rattle.drive_head.proofs.Laws.{send_head_short, receive_head_short}
use Rattle.end_state.specs.Refusals.{previous_run}
use Rattle.end_state.specs.declared.End.{End}
use Rattle.end_state.specs.declared.Refusal.{Refusal}
use Rattle.std.specs.Prelude.{Result, Ok, Err}
use Rattle.std.proofs.lemmas.Bool.{cond_both}
use Rattle.send.specs.Send.{send_verdict, sent_by, send, flits_written}
use Rattle.send.proofs.Cases.{admitted}
use Rattle.send.proofs.Bursts.{burst_length}
use Rattle.drive_script.specs.declared.Command.{Command}
use Rattle.drive_script.specs.declared.Command.TheVariants as command
use Rattle.drive_call.specs.Sides.{Kept, lent_bytes, sends, sends_output, receives, fills}
use Rattle.drive_line.specs.Lines.{Did, stated, bad, start_line, accept_line, send_line, receive_line, poke_line, fill_line, lend_line, count_line, commanded}

-- ---- the flits written are inside the output, and few

inside_by : (e : End) (store : List ℕ) (output : ℕ) (v : Result (Unit {0}) Refusal) → send_verdict e store output ≡ v
    → (flits_written (sent_by v e (previous_run e store)).answer * 64 ≤ output) × (flits_written (sent_by v e (previous_run e store)).answer ≤ 10)
inside_by e store output (Err r) h = (omega arith, omega arith)
inside_by e store output (Ok u) h =
    let a = admitted e store output h in
    let l = burst_length e store 0 0 a.its_store a.is_sound in
    (omega (arith, a.room, l.few), l.few)

pub sent_inside : (k : Kept) (output : ℕ)
    → (flits_written (sends k output).answer * 64 ≤ output) × (flits_written (sends k output).answer ≤ 10)
unfolding sends send
sent_inside k output =
    let store = lent_bytes k.side.store k.store in
    inside_by k.side.end store output (send_verdict k.side.end store output) refl

-- ---- a whole line

stated_short : (head : List ℕ) (k : Kept) → length head ≤ 4200 → length (stated head k).line ≤ 8192
unfolding stated
stated_short head k h = simp length-append (omega (arith, state_short k.side.end k.store k.hold))

refuse_short : (op : List ℕ) (n : ℕ) → length op ≤ 20 → length (op ++ decimal n) ≤ 4200
refuse_short op n h = simp length-append (omega (arith, length_decimal n))

bad_short : (k : Kept) → length (bad k).line ≤ 8192
unfolding bad
bad_short k = omega arith

pub did_short : (k : Kept) (c : Command) (bytes : List ℕ) → length (commanded k c bytes).line ≤ 8192
unfolding commanded start_line accept_line send_line receive_line poke_line fill_line lend_line count_line
did_short k command.Bad bytes = bad_short k
did_short k (command.Start n) bytes = stated_short _ _ (refuse_short (ascii "start refuse=") _ (omega arith))
did_short k (command.Accept n) bytes = stated_short _ _ (refuse_short (ascii "accept refuse=") _ (omega arith))
did_short k (command.Send n errors information) bytes =
    stated_short _ _
    (send_head_short (sends k n).answer (sends_output k n errors information) (omega (arith, (sent_inside k n).1)))
did_short k (command.Receive n) bytes = stated_short _ _ (omega (arith, receive_head_short (receives k bytes).answer))
did_short k (command.Poke f v) bytes = stated_short _ _ (refuse_short (ascii "poke refuse=") 0 (omega arith))
did_short k (command.Fill offset n) bytes =
    cond_both (fills k offset bytes).answer (stated (key_value "fill refuse=" 0) (fills k offset bytes).kept) (bad k) (λ (d : Did). length d.line ≤ 8192)
    (λ _. stated_short _ _ (refuse_short (ascii "fill refuse=") 0 (omega arith)))
    (λ _. bad_short k)
did_short k (command.Lend store hold) bytes = stated_short _ _ (refuse_short (ascii "lend refuse=") 0 (omega arith))
did_short k command.Ticket bytes = omega (arith, ticket_short k.side.ticket)
did_short k (command.Count key n) bytes = stated_short _ _ (refuse_short (ascii "count refuse=") 0 (omega arith))
