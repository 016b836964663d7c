use Rattle.std.proofs.Common.{◌≡◌, map, drop}
use Rattle.drive_name.specs.Names.{beside}
use Rattle.drive_name.proofs.named.Given as goal

abbrev pub invariant-loop-word : goal.invariant-loop-word
invariant-loop-word g l =
    beside l.token (map (λ p. (p.0.now, p.1)) l.table) ≡ beside l.token (map (λ p. (p.0.now, p.1)) (drop l.word-index l.table))
