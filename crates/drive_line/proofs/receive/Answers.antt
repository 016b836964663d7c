-- `drive_line::receive` meets its contract.
use Rattle.std.proofs.Common.{ap, arith}
use Rattle.text.proofs.Laws.{appends_more}
use Rattle.drive_head.specs.Heads.{receive_head}
use Rattle.drive_head.proofs.Laws.{receive_head_short}
use Rattle.drive_line.specs.Lines.{stated, receive_line}
use Rattle.drive_line.proofs.Leaving.{left_stated}
use Rattle.drive_line.proofs.receive.Goals as goal

pub put_state-requires : goal.put_state-requires
put_state-requires c =
    let h = c.put_receive.ensures.puts in
    omega (arith, c.requires, h.place, h.size, receive_head_short c.receive-answer.result)

pub returns : goal.returns
unfolding stated receive_line
returns c =
    let s = c.receive-answer.ensures in
    let l = left_stated (ap receive_head s.value) s.kept_after (appends_more c.put_receive.ensures c.put_state.ensures) in
    record { kept_after = l.kept_after; appends = l.appends }
