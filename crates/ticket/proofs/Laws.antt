-- Laws of the ticket: what a call leaves of each count, and its text as a form.
use mathlib.Core.List.{List, ◌++◌, append_assoc}
use mathlib.Core.Path.{◌≡◌, refl, ap}
use Prim.Native.Nat.{ℕ, ◌+◌, ◌≤◌, ◌<◌, ◌^◌}
use native.Mathlib.Omega.{arith}
use lib.ListN.{length}
use Rattle.flit_number.specs.declared.FlitCount.{FlitCount}
use Rattle.receive_answer.specs.declared.Answer.{Answer}
use Rattle.receive_answer.specs.declared.Cause.{Cause}
use Rattle.receive_answer.specs.declared.Answer.TheVariants as answer
use Rattle.text.specs.Text.{ascii, decimal, filled}
use Rattle.text.proofs.Laws.{filled_short}
use Rattle.ticket.specs.declared.Ticket.{Ticket}
use Rattle.ticket.specs.Ticket.{TicketCall, counts, nothing, stopped, adds, ticket_after, in_order, text}

-- ---- counts

pub counts_are : (a b c d e a' b' c' d' e' : ℕ) → a ≡ a' → b ≡ b' → c ≡ c' → d ≡ d' → e ≡ e' → counts a b c d e ≡ counts a' b' c' d' e'
counts_are a b c d e a' b' c' d' e' p q r s t = cc

-- the counts after a call that adds u
pub after_is : (t : Ticket) (c : TicketCall) (u r : Ticket) → adds c ≡ u
    → r.accepted ≡ stopped (t.accepted + u.accepted) → r.delivered ≡ stopped (t.delivered + u.delivered)
    → r.damaged ≡ stopped (t.damaged + u.damaged) → r.duplicate ≡ stopped (t.duplicate + u.duplicate)
    → r.downs ≡ stopped (t.downs + u.downs) → r ≡ ticket_after t c
unfolding ticket_after
after_is t c u r e p q v w x = rw e (counts_are _ _ _ _ _ _ _ _ _ _ p q v w x)

pub unchanged_is : (t : Ticket) (c : TicketCall) → t.accepted < 2 ^ 32 → t.delivered < 2 ^ 32 → t.damaged < 2 ^ 32 → t.duplicate < 2 ^ 32
    → t.downs < 2 ^ 32 → adds c ≡ nothing → t ≡ ticket_after t c
unchanged_is t c p q v w x e = after_is t c nothing t e (omega arith) (omega arith) (omega arith) (omega arith) (omega arith)

-- the answers that count nothing
pub uncounted : (a : Answer) → ((flits : FlitCount) → a ≡ answer.Delivered flits → ⊥) → (a ≡ answer.Damaged → ⊥) → (a ≡ answer.Duplicate → ⊥)
    → ((cause : Cause) → a ≡ answer.Down cause → ⊥) → adds (TicketCall.receives a) ≡ nothing
unfolding adds
uncounted (answer.Refused r) d m u w = refl
uncounted answer.Held d m u w = refl
uncounted (answer.Delivered flits) d m u w = absurd (d flits refl)
uncounted answer.Duplicate d m u w = absurd (u refl)
uncounted answer.Idle d m u w = refl
uncounted answer.Replayed d m u w = refl
uncounted answer.Ahead d m u w = refl
uncounted answer.Skipped d m u w = refl
uncounted answer.Damaged d m u w = absurd (m refl)
uncounted answer.Discarded d m u w = refl
uncounted (answer.Down cause) d m u w = absurd (w cause refl)

-- ---- its text

-- five keys, each with its number and a line feed
five_lines : (feed a m b n c o d p e q : List ℕ)
    → a ++ (m ++ (feed ++ (b ++ (n ++ (feed ++ (c ++ (o ++ (feed ++ (d ++ (p ++ (feed ++ (e ++ (q ++ feed)))))))))))))
    ≡ (a ++ m ++ feed) ++ (b ++ n ++ feed) ++ (c ++ o ++ feed) ++ (d ++ p ++ feed) ++ (e ++ q ++ feed)
five_lines feed a m b n c o d p e q = simp append_assoc

abbrev text_form : List ℕ
text_form = ascii "accepted=#\ndelivered=#\ndamaged=#\nduplicate=#\ndowns=#\n"

pub text_is : (t : Ticket) → filled text_form (in_order t) ≡ text t
unfolding filled text
text_is t =
    five_lines (ascii "\n") (ascii "accepted=") (decimal t.accepted) (ascii "delivered=") (decimal t.delivered) (ascii "damaged=") (decimal t.damaged) (ascii "duplicate=") (decimal t.duplicate) (ascii "downs=") (decimal t.downs)

pub text_short : (t : Ticket) → length (text t) ≤ 160
text_short t = omega (arith, filled_short text_form (in_order t), ap length (text_is t))
