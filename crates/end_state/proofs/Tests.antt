-- The two sides of a conjunction of tests. The library's `and_parts` gives both at once, and a `search` takes each alone.
use mathlib.Core.Bool.{Bool, true, ◌&&◌}
use mathlib.Core.Path.{◌≡◌}
use Rattle.std.proofs.lemmas.Bool.{and_parts}

pub and_l : (a b : Bool) → (a && b) ≡ true → a ≡ true
and_l a b h = (and_parts a b h).0

pub and_r : (a b : Bool) → (a && b) ≡ true → b ≡ true
and_r a b h = (and_parts a b h).1
