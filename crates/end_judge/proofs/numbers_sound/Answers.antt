use mathlib.Core.Bool.{◌&&◌}
use mathlib.Core.Path.{◌≡◌}
use Prim.Native.Nat.{ℕ}
use lib.Dec.{leb}
use Rattle.end_state.specs.Refusals.{numbers_sound}
use Rattle.end_judge.proofs.numbers_sound.Goals as goal

-- the five tests, by the numbers found
five : (held : ℕ) {p p' s s' k k' m m' : ℕ} → p ≡ p' → s ≡ s' → k ≡ k' → m ≡ m'
    → (leb p held && leb p s && leb s held && leb k m && leb k s) ≡ (leb p' held && leb p' s' && leb s' held && leb k' m' && leb k' s')
five held h i j l = cc (h, i, j, l)

pub returns : goal.returns
unfolding numbers_sound
returns c = let b = c in
    five b.args.e.held.0 b.flits_between-cursor.ensures b.flits_between-sent.ensures b.flits_between-acknowledged.ensures b.inside_oldest-most.ensures
