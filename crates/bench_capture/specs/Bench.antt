-- A capture (01, "The bench ticket"): flits go into a fresh receiver one after the other, and each gives a line.
use Rattle.std.specs.Prelude.{List, [], ◌++◌, ℕ, zero, suc, ◌+◌, ◌/◌, length}
use Rattle.ticket.specs.Ticket.{TicketCall, nothing, ticket_after}
use Rattle.end_state.specs.State.{start}
use Rattle.end_state.specs.Ring.{flit_at}
use Rattle.end_state.specs.declared.Answered.{Answered}
use Rattle.receive.specs.Receive.{receive, receive_hold}
use Rattle.receive_answer.specs.declared.Answer.{Answer}
use Rattle.bench_line.specs.Line.{flit_line}
use Rattle.bench_capture.specs.declared.Bench.{Bench}

-- a fresh receiver over a store of so many bytes, a ticket of zeros, and no flit so far
unfoldable pub bench_begun : ℕ → Bench
bench_begun bytes = record { end = (start bytes).end; flits = 0; ticket = nothing }

-- what is kept while flits arrive, the hold buffer, and the lines so far
pub record BenchSession : Type 0 where
  pub kept : Bench
  pub hold : List ℕ
  pub lines : List ℕ

-- what receive gives for a flit: the answer is counted and printed
abbrev pub after_flit : BenchSession → Answered Answer → List ℕ → BenchSession
after_flit s r hold =
    record {
      kept = record { end = r.end; flits = s.kept.flits + 1; ticket = ticket_after s.kept.ticket (TicketCall.receives r.answer) };
      hold = hold;
      lines = s.lines ++ flit_line s.kept.flits r.answer r.end;
    }

-- one flit
unfoldable pub next : List ℕ → BenchSession → List ℕ → BenchSession
next store s flit = after_flit s (receive s.kept.end store s.hold flit) (receive_hold s.kept.end store s.hold flit)

-- the first n flits of an input
unfoldable pub flits : List ℕ → BenchSession → List ℕ → ℕ → BenchSession
flits store s input zero = s
flits store s input (suc n) = next store (flits store s input n) (flit_at input n)

-- all whole flits of an input
abbrev pub whole_flits : List ℕ → Bench → List ℕ → List ℕ → BenchSession
whole_flits store kept hold input = flits store (record { kept = kept; hold = hold; lines = [] }) input (length input / 64)
