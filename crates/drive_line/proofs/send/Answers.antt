-- `drive_line::send` meets its contract.
use Rattle.std.proofs.Common.{◌*◌, ◌≤◌, length, sym, subst, arith}
use mathlib.Core.Path.{ap₂}
use Rattle.text.proofs.Laws.{appends_more}
use Rattle.send.specs.Send.{flits_written}
use Rattle.std.specs.Prelude.{Result}
use Rattle.flit_number.specs.declared.FlitCount.{FlitCount}
use Rattle.end_state.specs.declared.Refusal.{Refusal}
use Rattle.drive_head.specs.Heads.{send_head}
use Rattle.drive_head.proofs.Laws.{send_head_short}
use Rattle.drive_line.specs.Lines.{stated, send_line}
use Rattle.drive_line.proofs.Leaving.{left_stated}
use Rattle.drive_line.proofs.Lengths.{sent_inside}
use Rattle.drive_line.proofs.send.Goals as goal

pub put_send-requires : goal.put_send-requires
put_send-requires c =
    let s = c.send-answer in
    let n = length c.args.output.now in
    let inside = subst (λ (a : Result FlitCount Refusal). flits_written a * 64 ≤ n) (sym s.ensures.value) (sent_inside c.args.end.now n).0 in
    (omega (arith, s.auto.output, c.requires.0), omega (arith, s.auto.output), omega (arith, c.requires.1))

pub put_state-requires : goal.put_state-requires
put_state-requires c =
    let s = c.send-answer in
    let h = c.put_send.ensures.puts in
    let few = subst (λ (a : Result FlitCount Refusal). flits_written a ≤ 10) (sym s.ensures.value) (sent_inside c.args.end.now (length c.args.output.now)).1 in
    omega (arith, c.requires.0, c.requires.1, h.place, h.size, s.auto.output, send_head_short s.result s.new.output (omega (arith, few)))

pub returns : goal.returns
unfolding stated send_line
returns c =
    let s = c.send-answer.ensures in
    let l = left_stated (ap₂ send_head s.value s.output_after) s.kept_after (appends_more c.put_send.ensures c.put_state.ensures) in
    record { kept_after = l.kept_after; appends = l.appends }
