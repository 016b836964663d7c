-- A call of an operation with the lent buffers: what it answers and what it leaves in them, as the functions say it; and then what is kept after
-- it, and that the buffers are clean again, as an end in its buffers has it.
use mathlib.Core.Bool.{Bool}
use mathlib.Core.List.{List, [], ◌++◌}
use mathlib.Core.Path.{◌≡◌, refl, ap, ap₂, sym, subst, ◌∙◌}
use Prim.Native.Nat.{ℕ, ◌≤◌}
use native.Mathlib.Omega.{arith}
use lib.ListN.{length, take, drop}
use lib.Seq.{length-take-le}
use Rattle.text.specs.Text.{written}
use Rattle.text.proofs.Laws.{length_written}
use Rattle.std.proofs.lemmas.Bool.{cond_both}
use Rattle.end_state.specs.declared.End.{End}
use Rattle.end_state.specs.State.{start}
use Rattle.std.specs.Prelude.{Result}
use Rattle.flit_number.specs.declared.FlitCount.{FlitCount}
use Rattle.end_state.specs.declared.Answered.{Answered}
use Rattle.end_state.specs.declared.Refusal.{Refusal}
use Rattle.receive_answer.specs.declared.Answer.{Answer}
use Rattle.accept_verdict.specs.Admission.{flits_of}
use Rattle.accept.specs.Accept.{accept, accept_store}
use Rattle.send.specs.Send.{send, send_output}
use Rattle.receive.specs.Receive.{receive, receive_hold}
use Rattle.ticket.specs.Ticket.{TicketCall, nothing, ticket_after}
use Rattle.ticket.specs.declared.Ticket.{Ticket}
use Rattle.drive_side.specs.Side.{after_call}
use Rattle.drive_side.specs.declared.Side.{Side}
use Rattle.drive_call.specs.declared.Took.{Took}
use Rattle.drive_call.specs.Sides.{Kept, Called, Clean, Buffered, kept_in, kept_after, repeated, lent_bytes, side_answer, side_started, accepts, sends, sends_output, receives, fill_fits, fills_store, fills}
use Rattle.drive_call.proofs.Lent.{lent_clean, zeros_clean, lent_part, left_part, length_kept_after}

-- ---- the lent slices

-- zeros, and start with so many bytes
pub started_is : {n m : ℕ} {r : Answered (Result (Unit {0}) Refusal)} {s : Side} → m ≡ n → r ≡ start m
    → s ≡ record { end = r.end; kept = n; store = n; hold = 576; ticket = nothing }
    → record { side = s; answer = r.answer } ≡ side_answer (side_started n)
unfolding side_started
started_is e f same = rw (same, f, e) refl

module _ (s : Side) (store : List ℕ) (k : s.kept ≤ length store) (n : s.store ≤ length store) (z : Clean s.kept store) where
  -- what is lent
  lent_store : take s.store store ≡ lent_bytes s.store (take s.kept store)
  lent_store = lent_part store s.kept s.store k n z

  pub accepted_is : (unit : List ℕ) {r : Answered (Result (Unit {0}) Refusal)} {t : Ticket} {s' : Side}
      → r ≡ accept s.end (take s.store store) unit
      → t ≡ ticket_after s.ticket (TicketCall.accepts r.answer (flits_of unit))
      → s' ≡ after_call s r.end t
      → record { side = s'; answer = r.answer } ≡ side_answer (accepts (kept_in s store []) unit)
  unfolding accepts
  accepted_is unit f g h = let e = lent_store in rw (h, g, f, e) refl

  pub stored_is : (unit : List ℕ) {after store' : List ℕ}
      → length after ≡ length (take s.store store)
      → after ≡ accept_store s.end (take s.store store) unit
      → store' ≡ lent_bytes (length (after ++ drop s.store store)) (take s.kept (after ++ drop s.store store))
      → store' ≡ lent_bytes (length store) (accepts (kept_in s store []) unit).kept.store
  unfolding accepts
  stored_is unit {after} {store'} l f e =
      left_part store s.kept s.store k n z after l (accept_store s.end (lent_bytes s.store (take s.kept store)) unit) store'
      (f ∙ ap (λ (x : List ℕ). accept_store s.end x unit) lent_store) e

  pub sent_is : (output : ℕ) {m : ℕ} {r : Answered (Result FlitCount Refusal)} {s' : Side} → m ≡ output → r ≡ send s.end (take s.store store) m → s' ≡ after_call s r.end s.ticket
      → record { side = s'; answer = r.answer } ≡ side_answer (sends (kept_in s store []) output)
  unfolding sends
  sent_is output i f h = let e = lent_store in rw (h, f, i, e) refl

  pub sent_output_is : (m errors information : ℕ) {output after : List ℕ}
      → output ≡ repeated m 165 → after ≡ send_output s.end (take s.store store) output errors information
      → after ≡ sends_output (kept_in s store []) m errors information
  unfolding sends_output
  sent_output_is m errors information i f = f ∙ ap₂ (λ (x y : List ℕ). send_output s.end x y errors information) lent_store i

  module _ (hold : List ℕ) (k' : 576 ≤ length hold) (n' : s.hold ≤ length hold) (z' : Clean 576 hold) where
    lent_hold : take s.hold hold ≡ lent_bytes s.hold (take 576 hold)
    lent_hold = lent_part hold 576 s.hold k' n' z'

    pub received_is : (flit : List ℕ) {r : Answered Answer} {t : Ticket} {s' : Side}
        → r ≡ receive s.end (take s.store store) (take s.hold hold) flit
        → t ≡ ticket_after s.ticket (TicketCall.receives r.answer)
        → s' ≡ after_call s r.end t
        → record { side = s'; answer = r.answer } ≡ side_answer (receives (kept_in s store hold) flit)
    unfolding receives
    received_is flit f g h =
        let e = lent_store in
        let e' = lent_hold in
        rw (h, g, f, e, e') refl

    pub held_is : (flit : List ℕ) {after hold' : List ℕ}
        → length after ≡ length (take s.hold hold)
        → after ≡ receive_hold s.end (take s.store store) (take s.hold hold) flit
        → hold' ≡ lent_bytes (length (after ++ drop s.hold hold)) (take 576 (after ++ drop s.hold hold))
        → hold' ≡ lent_bytes (length hold) (receives (kept_in s store hold) flit).kept.hold
    unfolding receives
    held_is flit {after} {hold'} l f e =
        left_part hold 576 s.hold k' n' z' after l
        (receive_hold s.end (lent_bytes s.store (take s.kept store)) (lent_bytes s.hold (take 576 hold)) flit) hold'
        (f ∙ ap₂ (λ (x y : List ℕ). receive_hold s.end x y flit) lent_store lent_hold) e

-- ---- an end in its buffers

-- what a call leaves in the buffers, and what it answered
pub record Left {A : Type 0} (d : Called A) (s : Side) (store hold : List ℕ) (answer : A) : Type 0 where
  pub value : answer ≡ d.answer
  pub kept : kept_in s store hold ≡ d.kept
  pub buffers : Buffered s store hold

left_as : {A : Type 0} {d d' : Called A} {s : Side} {store hold : List ℕ} {answer : A} → d ≡ d' → Left d s store hold answer → Left d' s store hold answer
left_as {A} {s = s} {store} {hold} {answer} e l = subst (λ (x : Called A). Left x s store hold answer) e l

-- what is kept, said otherwise
pub keeps : (s s' : Side) (store hold kept held : List ℕ) → s ≡ s' → take s'.kept store ≡ kept → take 576 hold ≡ held
    → kept_in s store hold ≡ record { side = s'; store = kept; hold = held }
keeps s s' store hold kept held e f g = rw (e, f, g) refl

-- a call changed state and ticket alone
pub buffered_call : {s s' : Side} {e : End} {t : Ticket} {store hold : List ℕ} → s' ≡ after_call s e t → Buffered s store hold → Buffered s' store hold
buffered_call {s} {s'} {e} {t} {store} {hold} same b =
    subst (λ (x : Side). Buffered x store hold) (sym same)
    (record {
      kept = b.kept;
      store_lent = b.store_lent;
      hold_kept = b.hold_kept;
      hold_lent = b.hold_lent;
      store_clean = b.store_clean;
      hold_clean = b.hold_clean;
    })

-- the side and the answer, where the buffers have what is to be kept
left_of : {A : Type 0} {d : Called A} {r : Took A} {store hold : List ℕ} → r ≡ side_answer d
    → take d.kept.side.kept store ≡ d.kept.store → take 576 hold ≡ d.kept.hold → Buffered d.kept.side store hold → Left d r.side store hold r.answer
left_of {A} {d} {r} {store} {hold} e f g b =
    let same = ap (λ (x : Took A). x.side) e in
    record {
      value = ap (λ (x : Took A). x.answer) e;
      kept = keeps r.side d.kept.side store hold _ _ same f g;
      buffers = subst (λ (x : Side). Buffered x store hold) (sym same) b;
    }

-- both buffers are zeros
pub started : {bytes held n : ℕ} {r : Took (Result (Unit {0}) Refusal)} {store hold : List ℕ} → n ≤ bytes → 576 ≤ held
    → store ≡ repeated bytes 0 → hold ≡ repeated held 0 → r ≡ side_answer (side_started n) → Left (side_started n) r.side store hold r.answer
unfolding side_started
started {bytes} {held} {n} {r} {store} {hold} h k e f same =
    let x = zeros_clean store bytes n e h in
    let y = zeros_clean hold held 576 f k in
    left_of same x.1 y.1
    (record {
      kept = omega (arith, x.2);
      store_lent = omega (arith, x.2);
      hold_kept = omega (arith, y.2);
      hold_lent = omega (arith, y.2);
      store_clean = x.0;
      hold_clean = y.0;
    })

module _ {s : Side} {store hold : List ℕ} (b : Buffered s store hold) where
  -- other bytes are kept in the store
  buffered_store : (store' kept : List ℕ) → store' ≡ lent_bytes (length store) kept → length kept ≡ s.kept
      → Buffered s store' hold × (take s.kept store' ≡ kept)
  buffered_store store' kept e l =
      let clean = lent_clean store' kept (length store) s.kept e l b.kept in (
        record {
          kept = omega (arith, clean.2, b.kept);
          store_lent = omega (arith, clean.2, b.store_lent);
          hold_kept = b.hold_kept;
          hold_lent = b.hold_lent;
          store_clean = clean.0;
          hold_clean = b.hold_clean;
        },
        clean.1,
      )

  -- and in the hold
  buffered_hold : (hold' kept : List ℕ) → hold' ≡ lent_bytes (length hold) kept → length kept ≡ 576
      → Buffered s store hold' × (take 576 hold' ≡ kept)
  buffered_hold hold' kept e l =
      let clean = lent_clean hold' kept (length hold) 576 e l b.hold_kept in (
        record {
          kept = b.kept;
          store_lent = b.store_lent;
          hold_kept = omega (arith, clean.2, b.hold_kept);
          hold_lent = omega (arith, clean.2, b.hold_lent);
          store_clean = b.store_clean;
          hold_clean = clean.0;
        },
        clean.1,
      )

  module _ {k : Kept} (v : kept_in s store hold ≡ k) where
    pub accepted : (unit : List ℕ) {store' : List ℕ} {r : Took (Result (Unit {0}) Refusal)}
        → r ≡ side_answer (accepts (kept_in s store []) unit)
        → store' ≡ lent_bytes (length store) (accepts (kept_in s store []) unit).kept.store
        → Left (accepts k unit) r.side store' hold r.answer
    unfolding accepts
    accepted unit {store'} f e =
        let wrote = accept_store s.end (lent_bytes s.store (take s.kept store)) unit in
        let clean =
        buffered_store store' (kept_after wrote (take s.kept store)) e
        (length_kept_after wrote (take s.kept store) ∙ length-take-le s.kept store b.kept) in
        left_as (ap (λ (x : Kept). accepts x unit) v) (left_of f clean.1 refl (buffered_call refl clean.0))

    pub sent : (output : ℕ) {r : Took (Result FlitCount Refusal)} → r ≡ side_answer (sends (kept_in s store []) output)
        → Left (sends k output) r.side store hold r.answer
    unfolding sends
    sent output f = left_as (ap (λ (x : Kept). sends x output) v) (left_of f refl refl (buffered_call refl b))

    pub sent_output : (n errors information : ℕ) {after : List ℕ} → after ≡ sends_output (kept_in s store []) n errors information
        → after ≡ sends_output k n errors information
    unfolding sends_output
    sent_output n errors information f =
        f ∙ ap (λ (x : Kept). send_output x.side.end (lent_bytes x.side.store x.store) (repeated n 165) errors information) v

    pub received : (flit : List ℕ) {hold' : List ℕ} {r : Took Answer}
        → r ≡ side_answer (receives (kept_in s store hold) flit)
        → hold' ≡ lent_bytes (length hold) (receives (kept_in s store hold) flit).kept.hold
        → Left (receives k flit) r.side store hold' r.answer
    unfolding receives
    received flit {hold'} f e =
        let wrote = receive_hold s.end (lent_bytes s.store (take s.kept store)) (lent_bytes s.hold (take 576 hold)) flit in
        let clean =
        buffered_hold hold' (kept_after wrote (take 576 hold)) e
        (length_kept_after wrote (take 576 hold) ∙ length-take-le 576 hold b.hold_kept) in
        left_as (ap (λ (x : Kept). receives x flit) v) (left_of f refl clean.1 (buffered_call refl clean.0))

    pub filled : (offset : ℕ) (bytes : List ℕ) {after : List ℕ} {fits : Bool}
        → fits ≡ fill_fits s.kept offset (length bytes)
        → after ≡ lent_bytes (length store) (fills_store s.kept (take s.kept store) offset bytes)
        → Left (fills k offset bytes) s after hold fits
    unfolding fills
    filled offset bytes {after} f e =
        let kept = take s.kept store in
        let size : length (fills_store s.kept kept offset bytes) ≡ s.kept =
        cond_both (fill_fits s.kept offset (length bytes)) (written kept offset bytes) kept (λ (l : List ℕ). length l ≡ length kept)
        (λ _. length_written kept offset bytes)
        (λ _. refl)
        ∙ length-take-le s.kept store b.kept in
        let clean = buffered_store after (fills_store s.kept kept offset bytes) e size in
        left_as (ap (λ (x : Kept). fills x offset bytes) v)
        (record { value = f; kept = keeps s s after hold _ _ refl clean.1 refl; buffers = clean.0 })
