-- `flit_read::read::fields` meets its contract: each field of a DL content is a quotient and a rest of it,
-- and those of a replay flit from bit 96 on are fields of its DL content.
use mathlib.Core.Path.{sym, ap, ◌∙◌}
use Prim.Native.Nat.{ℕ}
use lib.Dec.{eqb}
use native.Mathlib.Omega.{arith}
use Rattle.crc.specs.Unit.{AllBytes}
use Rattle.flit_read.specs.Bytes.{number, read, marked, bit}
use Rattle.flit_read.specs.Fields.{fields_of, ack_count, run_length, stalled_run_length, data_stalled, short_flit_next}
use Rattle.flit_read.proofs.Laws.{number_2, replay_number, replay_field}
use Rattle.flit_read.proofs.read.fields.Goals as goal

pub returns : goal.returns
unfolding fields_of
returns c = let s = c.args.flit.now in
    let bs : AllBytes s = λ i. omega (arith, c.type_inv.flit i) in
    let e = c.content-c.ensures in
    let acks = ap (read ack_count) e in
    let run = c.run_length-run.ensures ∙ ap (read run_length) e in
    let stalled_run = ap (read stalled_run_length) e in
    let previous_run = stalled_run ∙ sym (replay_field s bs 7 4) in
    let start = c.from_le_bytes.ensures ∙ number_2 c.taken-start.result (omega arith) ∙ ap number c.taken-start.ensures ∙ sym (replay_number 10 2 s bs) in
    let last = c.from_le_bytes-2.ensures ∙ number_2 c.taken-last.result (omega arith) ∙ ap number c.taken-last.ensures ∙ sym (replay_number 8 2 s bs) in
    let stalled = ap (marked data_stalled) e in
    let short = ap (marked short_flit_next) e in
    let nacks = ap (marked (bit 20)) e ∙ ap (λ (n : ℕ). eqb n 1) (sym (replay_field s bs 20 20)) in
    λ k. record {
      information = c.information.ensures k;
      acks = record { 0 = acks k };
      run = record { 0 = run k };
      stall = record { 0 = stalled_run k };
      previous = record { 0 = previous_run k };
      start = record { 0 = start k };
      last = record { 0 = last k };
      stalled = stalled k;
      short = short k;
      nack = nacks k;
    }
