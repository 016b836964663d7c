-- What it says that receive refuses nothing.
use mathlib.Core.Bool.{true, false, not, ◌&&◌}
use mathlib.Core.List.{List}
use mathlib.Core.Path.{◌≡◌}
use Prim.Native.Nat.{ℕ}
use borrow.Author.Tests.{eqb-true, not-false}
use lib.Dec.{eqb}
use lib.ListN.{length}
use Rattle.std.specs.Prelude.{Ok}
use Rattle.end_state.specs.Refusals.{store_is, sound, is_down}
use Rattle.end_state.specs.declared.End.{End}
use Rattle.end_state.specs.declared.Refusal.TheVariants as refusal
use Rattle.end_state.proofs.Facts.{Counted, sound_is}
use Rattle.end_state.proofs.Tests.{and_l, and_r}
use Rattle.end_state.proofs.Verdicts.{past}
use Rattle.receive.specs.Receive.{receive_verdict}

pub record Admission (e : End) (store : List ℕ) (hold flit : ℕ) : Type 0 where
  pub its_store : store_is e (length store) ≡ true
  pub hold_fits : hold ≡ 576
  pub is_sound : sound e store ≡ true
  pub counts : Counted e
  pub flit_fits : flit ≡ 64
  pub up : is_down e.mode ≡ false

pub admission : (e : End) (store : List ℕ) (hold flit : ℕ) → receive_verdict e store hold flit ≡ Ok tt → Admission e store hold flit
unfolding receive_verdict
admission e store hold flit h =
    let lengths = past (not (store_is e (length store) && eqb hold 576)) refusal.Store _ tt h in
    let state = past (not (sound e store)) refusal.State _ tt lengths.rest in
    let shape = past (not (eqb flit 64)) refusal.Shape _ tt state.rest in
    let down = past (is_down e.mode) refusal.Down _ tt shape.rest in
    let is_sound = not-false (sound e store) state.test in
    let both = not-false (store_is e (length store) && eqb hold 576) lengths.test in
    record {
      its_store = and_l (store_is e (length store)) (eqb hold 576) both;
      hold_fits = eqb-true hold 576 (and_r (store_is e (length store)) (eqb hold 576) both);
      is_sound = is_sound;
      counts = (sound_is e store is_sound).counts;
      flit_fits = eqb-true flit 64 (not-false (eqb flit 64) shape.test);
      up = down.test;
    }
