-- `Pair::step` meets its contract: a line feed ends the line, and any other byte is remembered.
use Rattle.std.proofs.Common.{arith, ◌∙◌}
use lib.ListN.{length-set}
use Rattle.drive_pair.proofs.Bytes.{goes_as, byte_ends, goes_remembered, goes_forgotten, remembered_clean}
use Rattle.drive_pair.proofs.Pair.step.Goals as goal

pub returns-then-c-eq10 : goal.returns-then-c-eq10
returns-then-c-eq10 c = goes_as (byte_ends c.args.self.now c.if-c-eq10.true) c.end_line.ensures

pub invariant_of-self : goal.invariant_of-self
invariant_of-self c =
    let p = c.self.inside in
    let i = c.self.invariant in
    (length-set p.line p.length c.args.c ∙ i.0, remembered_clean p.line p.length c.args.c c.if-self-lt4097.true i.1)

pub returns-then-self-lt4097 : goal.returns-then-self-lt4097
returns-then-self-lt4097 c =
    goes_remembered c.self.view_is c.self.invariant.0 c.self.invariant.1 c.args.writer.now c.if-c-eq10.false (omega (arith, c.requires)) c.if-self-lt4097.true

pub returns-else-self-lt4097 : goal.returns-else-self-lt4097
returns-else-self-lt4097 c =
    goes_forgotten c.self.view_is c.self.invariant.0 c.self.invariant.1 c.args.writer.now c.if-c-eq10.false (omega (arith, c.requires)) c.if-self-lt4097.false
