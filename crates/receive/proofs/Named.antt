-- Receive answers no cause but the four of document 01.
use mathlib.Core.List.{List}
use Prim.Native.Nat.{ℕ}
use lib.ListN.{length}
use Rattle.std.specs.Prelude.{Result, Ok, Err}
use Rattle.crc.specs.Unit.{right}
use Rattle.flit_read.specs.Fields.{fields_of}
use Rattle.end_state.specs.declared.End.{End}
use Rattle.end_state.specs.declared.Refusal.{Refusal}
use Rattle.receive_test.specs.Arrivals.{checked}
use Rattle.receive_answer.proofs.Found.{Named, mode_named}
use Rattle.receive.specs.Receive.{receive_verdict, answer_by, answer_to, receive}

pub receive_named : (e : End) (store hold flit : List ℕ) → Named (receive e store hold flit).answer
unfolding receive answer_to
receive_named e store hold flit = go (receive_verdict e store (length hold) (length flit))
  where
    go : (v : Result (Unit {0}) Refusal) → Named (answer_by v e hold flit)
    go (Err r) = record {}
    go (Ok u) = mode_named e.mode e (fields_of flit) (right (checked e hold flit))
