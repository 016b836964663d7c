-- What the commands start, accept, send, receive and fill do to an end, by what the operations are said to do.
use Rattle.std.specs.Prelude.{Bool, ◌||◌, cond, List, ◌++◌, ◌≡◌, ℕ, ◌+◌, ◌-◌, ◌≤◌, leb, eqb, length, take, drop, replicate, Result}
use Rattle.text.specs.Text.{written}
use Rattle.flit_number.specs.declared.FlitCount.{FlitCount}
use Rattle.end_state.specs.declared.Refusal.{Refusal}
use Rattle.end_state.specs.State.{start}
use Rattle.accept_verdict.specs.Admission.{flits_of}
use Rattle.accept.specs.Accept.{accept, accept_store}
use Rattle.send.specs.Send.{send, send_output}
use Rattle.receive.specs.Receive.{receive, receive_hold}
use Rattle.receive_answer.specs.declared.Answer.{Answer}
use Rattle.ticket.specs.Ticket.{TicketCall, nothing, ticket_after}
use Rattle.drive_side.specs.Side.{after_call}
use Rattle.drive_side.specs.declared.Side.{Side}
use Rattle.drive_call.specs.declared.Took.{Took}

-- ---- an end

-- an end with its ticket, and its store and its hold, whole
pub record Kept : Type 0 where
  pub side : Side
  pub store : List ℕ
  pub hold : List ℕ

-- what a call leaves, and what it answers
pub record Called (A : Type 0) : Type 0 where
  pub kept : Kept
  pub answer : A

-- the side of what is left, and the answer
abbrev pub side_answer : {A : Type 0} → Called A → Took A
side_answer d = record { side = d.kept.side; answer = d.answer }

-- ---- buffers

-- so many bytes alike
unfoldable pub repeated : ℕ → ℕ → List ℕ
repeated n b = replicate n b

-- what is lent: the first bytes of the kept buffer, with fresh zeros after where it is shorter
unfoldable pub lent_bytes : ℕ → List ℕ → List ℕ
lent_bytes n kept = take n kept ++ repeated (n - length kept) 0

-- a clean buffer: every byte past the kept ones is 0
abbrev pub Clean : ℕ → List ℕ → Type 0
Clean kept buffer = drop kept buffer ≡ repeated (length buffer - kept) 0

-- the kept buffer after a call: what the call wrote past it is lost
unfoldable pub kept_after : List ℕ → List ℕ → List ℕ
kept_after ticket_after kept = take (length kept) ticket_after ++ drop (length ticket_after) kept

-- the store is the first bytes of its buffer, and the hold the first 576 of its own
abbrev pub kept_in : Side → List ℕ → List ℕ → Kept
kept_in s store hold = record { side = s; store = take s.kept store; hold = take 576 hold }

-- a side in its buffers: what is kept and what is lent is inside them, and every byte of the buffers past what is kept is 0
pub record Buffered (s : Side) (store hold : List ℕ) : Type 0 where
  pub kept : s.kept ≤ length store
  pub store_lent : s.store ≤ length store
  pub hold_kept : 576 ≤ length hold
  pub hold_lent : s.hold ≤ length hold
  pub store_clean : Clean s.kept store
  pub hold_clean : Clean 576 hold

-- ---- the operations

-- a store of so many zeros, a hold of 576 and a ticket of zeros, both buffers lent at full length
unfoldable pub side_started : ℕ → Called (Result (Unit {0}) Refusal)
side_started bytes =
    record {
      kept = record {
        side = record { end = (start bytes).end; kept = bytes; store = bytes; hold = 576; ticket = nothing };
        store = repeated bytes 0;
        hold = repeated 576 0;
      };
      answer = (start bytes).answer;
    }

unfoldable pub accepts : Kept → List ℕ → Called (Result (Unit {0}) Refusal)
accepts k unit =
    record {
      kept = record {
        side = after_call k.side (accept k.side.end (lent_bytes k.side.store k.store) unit).end
            (ticket_after k.side.ticket (TicketCall.accepts (accept k.side.end (lent_bytes k.side.store k.store) unit).answer (flits_of unit)));
        store = kept_after (accept_store k.side.end (lent_bytes k.side.store k.store) unit) k.store;
        hold = k.hold;
      };
      answer = (accept k.side.end (lent_bytes k.side.store k.store) unit).answer;
    }

-- each byte of the output is 165 before the call
unfoldable pub sends : Kept → ℕ → Called (Result FlitCount Refusal)
sends k output =
    record {
      kept = record {
        side = after_call k.side (send k.side.end (lent_bytes k.side.store k.store) output).end k.side.ticket;
        store = k.store;
        hold = k.hold;
      };
      answer = (send k.side.end (lent_bytes k.side.store k.store) output).answer;
    }

unfoldable pub sends_output : Kept → ℕ → ℕ → ℕ → List ℕ
sends_output k output errors information =
    send_output k.side.end (lent_bytes k.side.store k.store) (repeated output 165) errors information

unfoldable pub receives : Kept → List ℕ → Called Answer
receives k flit =
    record {
      kept = record {
        side = after_call k.side (receive k.side.end (lent_bytes k.side.store k.store) (lent_bytes k.side.hold k.hold) flit).end
            (ticket_after k.side.ticket (TicketCall.receives (receive k.side.end (lent_bytes k.side.store k.store) (lent_bytes k.side.hold k.hold) flit).answer));
        store = k.store;
        hold = kept_after (receive_hold k.side.end (lent_bytes k.side.store k.store) (lent_bytes k.side.hold k.hold) flit) k.hold;
      };
      answer = (receive k.side.end (lent_bytes k.side.store k.store) (lent_bytes k.side.hold k.hold) flit).answer;
    }

-- ---- fill

-- bytes all inside a store of so many
unfoldable pub fill_fits : ℕ → ℕ → ℕ → Bool
fill_fits kept offset bytes = eqb bytes 0 || leb (offset + bytes) kept

-- the store after it: the bytes in their place, or as it was
abbrev pub fills_store : ℕ → List ℕ → ℕ → List ℕ → List ℕ
fills_store kept store offset bytes = cond (fill_fits kept offset (length bytes)) (written store offset bytes) store

-- the bytes in their place in the store, or all as it was
unfoldable pub fills : Kept → ℕ → List ℕ → Called Bool
fills k offset bytes =
    record {
      kept = record {
        side = k.side;
        store = fills_store k.side.kept k.store offset bytes;
        hold = k.hold;
      };
      answer = fill_fits k.side.kept offset (length bytes);
    }
