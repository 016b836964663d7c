-- `ticket::write_ticket` meets its contract: the text is made aside, and put in place where there is room.
use mathlib.Core.Path.{◌≡◌, sym, ap, ◌∙◌}
use mathlib.Core.List.{List, ◌++◌}
use Prim.Native.Nat.{ℕ, ◌≤◌, ◌<◌}
use native.Mathlib.Omega.{arith}
use lib.ListN.{length, drop, length-take}
use borrow.Author.Tests.{le-leb, lt-leb}
use Rattle.std.specs.Prelude.{Some, None}
use Rattle.text.proofs.Laws.{puts_start, written_start}
use Rattle.std.proofs.lemmas.Bool.{cond-true, cond-false}
use Rattle.ticket.specs.declared.Ticket.{Ticket}
use Rattle.ticket.specs.Ticket.{text, answer_for, ticket_output}
use Rattle.ticket.proofs.Laws.{text_short}
use Rattle.ticket.proofs.write_ticket.Goals as goal

-- where the text fits, it is written, and its length answered; otherwise neither
fits : (t : Ticket) (out made : List ℕ) (bytes : ℕ) → bytes ≡ length (text t) → made ≡ text t → bytes ≤ length out
    → (Some bytes ≡ answer_for t (length out)) × (made ++ drop bytes out ≡ ticket_output t out)
unfolding answer_for ticket_output
fits t out made bytes n m h =
    let b = le-leb (length (text t)) (length out) (omega arith) in (
      ap Some n ∙ sym (cond-true _ _ _ b),
      rw (m, n) (sym (written_start out (text t) (omega arith)) ∙ sym (cond-true _ _ _ b)),
    )

short : (t : Ticket) (out : List ℕ) (bytes : ℕ) → bytes ≡ length (text t) → length out < bytes
    → (None ≡ answer_for t (length out)) × (out ≡ ticket_output t out)
unfolding answer_for ticket_output
short t out bytes n h =
    let b = lt-leb (length (text t)) (length out) (omega arith) in
    (sym (cond-false _ _ _ b), sym (cond-false _ _ _ b))

pub returns-then-out-bytes : goal.returns-then-out-bytes
returns-then-out-bytes c =
    let p = c.write_whole-bytes.ensures in
    let f = short c.args.t c.args.out.now c.write_whole-bytes.result (omega arith) (omega arith) in
    record { value = f.0; out_after = f.1 }

pub slice_bounds-whole-end : goal.slice_bounds-whole-end
slice_bounds-whole-end c = let p = c.write_whole-bytes.ensures in omega (arith, text_short c.args.t)

pub slice_bounds-copy_from_slice-end-3 : goal.slice_bounds-copy_from_slice-end-3
slice_bounds-copy_from_slice-end-3 c = let p = c.write_whole-bytes.ensures in
    simp length-take (omega (arith, text_short c.args.t))

pub copy_from_slice-requires : goal.copy_from_slice-requires
copy_from_slice-requires c = let p = c.write_whole-bytes.ensures in
    simp length-take (omega (arith, text_short c.args.t))

pub returns : goal.returns
returns c =
    let p = c.write_whole-bytes.ensures in
    let made = c.copy_from_slice.ensures.after ∙ puts_start p (omega (arith, text_short c.args.t)) in
    let f = fits c.args.t c.args.out.now c.copy_from_slice.new.self c.write_whole-bytes.result (omega arith) made (omega arith) in
    record { value = f.0; out_after = f.1 }
