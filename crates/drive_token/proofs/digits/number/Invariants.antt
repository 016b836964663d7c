use Rattle.std.proofs.Common.{◌≡◌, ◌≤◌, drop}
use Rattle.drive_token.specs.Tokens.{all_digits, value_from, value as value_of}
use Rattle.drive_token.proofs.digits.number.Given as goal

abbrev pub invariant-loop-c : goal.invariant-loop-c
invariant-loop-c l = record {
  at_most : l.value ≤ l.max;
  digits : all_digits l.token ≡ all_digits (drop l.c-index l.token);
  so_far : value_of l.token ≡ value_from l.value (drop l.c-index l.token);
}
