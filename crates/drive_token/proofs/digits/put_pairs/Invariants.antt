use Rattle.std.proofs.Common.{◌≡◌, length}
use Rattle.drive_token.specs.Tokens.{pairs}
use Rattle.drive_token.proofs.Figures.{so_far}
use Rattle.drive_token.proofs.digits.put_pairs.Given as goal

abbrev pub invariant-loop-i : goal.invariant-loop-i
invariant-loop-i l = record {
  written : l.bytes ≡ so_far (pairs l.hex) l.initial.bytes l.i;
  same_length : length l.bytes ≡ length l.initial.bytes;
}
