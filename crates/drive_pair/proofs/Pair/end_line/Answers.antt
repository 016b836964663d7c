-- `Pair::end_line` meets its contract: the line is read, and its command answered by the end that it is for.
use Rattle.std.proofs.Common.{ap, ◌∙◌, take, sym}
use Rattle.drive_name.specs.declared.Which.{Which}
use Rattle.drive_script.specs.Script.{bytes_in}
use Rattle.drive_pair.specs.Pair.{ended, answered}
use Rattle.drive_pair.proofs.Bytes.{no_line, goes_as, goes_first, goes_second}
use Rattle.drive_pair.proofs.Pair.end_line.Goals as goal

pub invariant_of-self : goal.invariant_of-self
invariant_of-self c = (c.clear.auto.buffer ∙ c.self.invariant.0, no_line _ c.clear.ensures)

pub invariant_of-self-in-B : goal.invariant_of-self-in-B
invariant_of-self-in-B c = (c.clear.auto.buffer ∙ c.self.invariant.0, no_line _ c.clear.ensures)

pub returns-in-A : goal.returns-in-A
returns-in-A c =
    let s = c.self.inside in
    let r = c.read_command-read in
    let unit = take (bytes_in r.result.command) r.new.bytes in
    goes_as
    (ap (λ (w : Which). answered s.a s.b w r.result.command unit) (sym c.in-A.is) ∙ r.ensures.bytes_after s.a s.b ∙ ap ended c.self.view_is)
    (goes_first s.a s.b r.result.command unit c.requires c.run.ensures.kept_after c.run.ensures.appends)

pub returns-in-B : goal.returns-in-B
returns-in-B c =
    let s = c.self.inside in
    let r = c.read_command-read in
    let unit = take (bytes_in r.result.command) r.new.bytes in
    goes_as
    (ap (λ (w : Which). answered s.a s.b w r.result.command unit) (sym c.in-B.is) ∙ r.ensures.bytes_after s.a s.b ∙ ap ended c.self.view_is)
    (goes_second s.a s.b r.result.command unit c.requires c.run-in-B.ensures.kept_after c.run-in-B.ensures.appends)
