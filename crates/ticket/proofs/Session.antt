-- The ticket of a session: from a fresh ticket on, after any list of calls, each count is the count over the answers given so far,
-- up to where it stops. By induction over the calls, from any ticket: a count that stops and is then added to is the sum that stops.
use mathlib.Core.List.{List, [], ◌∷◌}
use mathlib.Core.Path.{◌≡◌, ◌∙◌}
use Prim.Native.Nat.{ℕ, ◌+◌, ◌≤◌}
use native.Mathlib.Omega.{arith}
use Rattle.ticket.specs.declared.Ticket.{Ticket}
use Rattle.ticket.specs.Ticket.{TicketCall, counts, nothing, stopped, adds, ticket_after, ticket_after_all, total}
use Rattle.ticket.proofs.Laws.{counts_are}

-- a count that has not passed where it stops
stops_once : (x n rest : ℕ) → stopped (stopped (x + n) + rest) ≡ stopped (x + (n + rest))
stops_once x n rest = omega arith

-- from any ticket whose counts have not passed where they stop
session_from : (t : Ticket) (calls : List TicketCall) → t.accepted ≤ 4294967295 → t.delivered ≤ 4294967295 → t.damaged ≤ 4294967295
    → t.duplicate ≤ 4294967295 → t.downs ≤ 4294967295
    → ticket_after_all t calls
    ≡ counts (stopped (t.accepted + total (λ u. u.accepted) calls)) (stopped (t.delivered + total (λ u. u.delivered) calls))
    (stopped (t.damaged + total (λ u. u.damaged) calls))
    (stopped (t.duplicate + total (λ u. u.duplicate) calls))
    (stopped (t.downs + total (λ u. u.downs) calls))
unfolding ticket_after_all total ticket_after
session_from t [] a b c d e =
    counts_are _ _ _ _ _ _ _ _ _ _ (omega arith) (omega arith) (omega arith) (omega arith) (omega arith)
session_from t (x ∷ calls) a b c d e =
    session_from (ticket_after t x) calls (omega arith) (omega arith) (omega arith) (omega arith) (omega arith)
    ∙ counts_are _ _ _ _ _ _ _ _ _ _ (stops_once t.accepted (adds x).accepted (total (λ u. u.accepted) calls))
    (stops_once t.delivered (adds x).delivered (total (λ u. u.delivered) calls))
    (stops_once t.damaged (adds x).damaged (total (λ u. u.damaged) calls))
    (stops_once t.duplicate (adds x).duplicate (total (λ u. u.duplicate) calls))
    (stops_once t.downs (adds x).downs (total (λ u. u.downs) calls))

pub session : (calls : List TicketCall) → ticket_after_all nothing calls
    ≡ counts (stopped (total (λ t. t.accepted) calls)) (stopped (total (λ t. t.delivered) calls))
    (stopped (total (λ t. t.damaged) calls))
    (stopped (total (λ t. t.duplicate) calls))
    (stopped (total (λ t. t.downs) calls))
session calls =
    session_from nothing calls (omega arith) (omega arith) (omega arith) (omega arith) (omega arith)
    ∙ counts_are _ _ _ _ _ _ _ _ _ _ (omega arith) (omega arith) (omega arith) (omega arith) (omega arith)
