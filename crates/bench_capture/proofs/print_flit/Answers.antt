-- `bench_capture::print_flit` meets its contract: what receive answers is printed and counted.
use Rattle.std.proofs.Common.{refl, ap}
use Rattle.text.proofs.Laws.{appends_as}
use Rattle.end_state.specs.declared.Answered.{Answered}
use Rattle.receive_answer.specs.declared.Answer.{Answer}
use Rattle.bench_line.specs.Line.{flit_line}
use Rattle.bench_capture.specs.Bench.{next}
use Rattle.bench_capture.proofs.print_flit.Goals as goal

pub returns : goal.returns
unfolding next
returns c =
    let r = c.receive-answer.ensures in
    record {
      kept_value = rw (c.after_receive.ensures, r.value) refl;
      hold_after = r.hold_after;
      appends = appends_as (ap (λ (x : Answered Answer). flit_line c.args.b.flits x.answer x.end) r.value) c.put_line.ensures;
    }
