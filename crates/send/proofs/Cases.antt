-- What an admitted call of send says: no refusal of the table holds.
use mathlib.Core.Bool.{true, false, not}
use mathlib.Core.List.{List}
use mathlib.Core.Path.{◌≡◌, refl}
use Prim.Native.Nat.{ℕ, ◌≤◌}
use borrow.Author.Tests.{not-false, ltb-false}
use lib.Dec.{ltb}
use lib.ListN.{length}
use Rattle.flit_number.specs.declared.FlitCount.{FlitCount}
use Rattle.std.specs.Prelude.{Result, Ok, Err}
use Rattle.end_state.specs.Refusals.{store_is, sound, is_down}
use Rattle.end_state.specs.declared.End.{End}
use Rattle.end_state.specs.declared.Refusal.{Refusal}
use Rattle.end_state.specs.declared.Refusal.TheVariants as refusal
use Rattle.end_state.proofs.Verdicts.{past}
use Rattle.send.specs.Send.{send_verdict, admitted_run}

pub record Admits (e : End) (store : List ℕ) (n : ℕ) : Type 0 where
  pub its_store : store_is e (length store) ≡ true
  pub is_sound : sound e store ≡ true
  pub room : 640 ≤ n
  pub up : is_down e.mode ≡ false

pub admitted : (e : End) (store : List ℕ) (n : ℕ) → send_verdict e store n ≡ Ok tt → Admits e store n
unfolding send_verdict
admitted e store n h =
    let p1 = past (not (store_is e (length store))) refusal.Store _ tt h in
    let p2 = past (not (sound e store)) refusal.State _ tt p1.rest in
    let p3 = past (ltb n 640) refusal.Out _ tt p2.rest in
    let p4 = past (is_down e.mode) refusal.Down _ tt p3.rest in
    record { its_store = not-false _ p1.test; is_sound = not-false _ p2.test; room = ltb-false n 640 p3.test; up = p4.test }

-- what is found of the run length where send refuses, and where it does not
pub refused_run : (v : Result (Unit {0}) Refusal) (n : ℕ) (r : Refusal) → admitted_run v n ≡ Err r → v ≡ Err r
refused_run (Err s) n r h = cc
refused_run (Ok u) n r h = cc

pub admitted_run_is : (v : Result (Unit {0}) Refusal) (n : ℕ) (run : FlitCount) → admitted_run v n ≡ Ok run → (v ≡ Ok tt) × (run.0 ≡ n)
admitted_run_is (Err s) n run h = cc
admitted_run_is (Ok u) n run h = (refl, cc)
