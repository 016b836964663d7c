-- `bench_line::put_line` meets its contract: its two parts, one after the other.
use Rattle.text.proofs.Laws.{appends_more}
use Rattle.bench_line.proofs.Laws.{answer_part_short, room_left}
use Rattle.bench_line.specs.Line.{flit_line}
use Rattle.bench_line.proofs.put_line.Goals as goal

pub put_state-requires : goal.put_state-requires
put_state-requires c = room_left 48 c.put_answer.ensures (answer_part_short c.args.flit c.args.answer) c.requires

pub returns : goal.returns
unfolding flit_line
returns c = appends_more c.put_answer.ensures c.put_state.ensures
