-- What an admitted call of accept says of the state, the store and the unit: no refusal of the table holds.
use mathlib.Core.Bool.{true, false, not}
use mathlib.Core.List.{List}
use mathlib.Core.Path.{◌≡◌}
use Rattle.std.specs.Prelude.{Ok}
use Prim.Native.Nat.{ℕ, ◌+◌, ◌-◌, ◌*◌, ◌/◌, ◌%◌, ◌<◌, ◌≤◌}
use native.Mathlib.Omega.{arith}
use borrow.Author.Tests.{ltb-true, ltb-false, leb-true, eqb-true, not-false}
use lib.Dec.{ltb, eqb}
use lib.ListN.{length}
use Rattle.flit_read.specs.Fields.{acceptable}
use Rattle.end_state.specs.Refusals.{store_is, sound, is_down, last_run}
use Rattle.end_state.specs.declared.End.{End}
use Rattle.end_state.specs.declared.Refusal.TheVariants as refusal
use Rattle.end_state.proofs.Tests.{and_l, and_r}
use Rattle.end_state.proofs.Facts.{Stored, stored_is, Sound, sound_is}
use Rattle.end_state.proofs.Verdicts.{past}
use Rattle.accept_verdict.specs.Admission.{unit_shaped, flits_of, control_of, accept_verdict}

-- 3 SHAPE is not given
pub record Shaped (bytes : ℕ) : Type 0 where
  pub whole : bytes ≡ bytes / 64 * 64
  pub least : 1 ≤ bytes / 64
  pub most : bytes / 64 ≤ 9

pub shaped : (bytes : ℕ) → unit_shaped bytes ≡ true → Shaped bytes
unfolding unit_shaped
shaped bytes h =
    let a : 0 < bytes = search (and_l, and_r, ltb-true) depth 10 in
    let b : bytes ≤ 576 = search (and_l, and_r, leb-true) depth 10 in
    let c : bytes % 64 ≡ 0 = search (and_l, and_r, eqb-true) depth 10 in
    record { whole = omega arith; least = omega arith; most = omega arith }

-- no refusal is given
pub record Admission (e : End) (store unit : List ℕ) : Type 0 where
  pub its_store : store_is e (length store) ≡ true
  pub is_sound : sound e store ≡ true
  pub has_shape : unit_shaped (length unit) ≡ true
  pub up : is_down e.mode ≡ false
  pub run : flits_of unit - 1 ≡ last_run e store
  pub control : acceptable (control_of unit) ≡ true
  pub room : e.held.0 + flits_of unit ≤ e.capacity.0
  pub stored : Stored e (length store)
  pub state : Sound e store
  pub shape : Shaped (length unit)

pub admission : (e : End) (store unit : List ℕ) → accept_verdict e store unit ≡ Ok tt → Admission e store unit
unfolding accept_verdict
admission e store unit h =
    let p1 = past (not (store_is e (length store))) refusal.Store _ tt h in
    let p2 = past (not (sound e store)) refusal.State _ tt p1.rest in
    let p3 = past (not (unit_shaped (length unit))) refusal.Shape _ tt p2.rest in
    let p4 = past (is_down e.mode) refusal.Down _ tt p3.rest in
    let p5 = past (not (eqb (flits_of unit - 1) (last_run e store))) refusal.Run _ tt p4.rest in
    let p6 = past (not (acceptable (control_of unit))) refusal.Field _ tt p5.rest in
    let p7 = past (ltb e.capacity.0 (e.held.0 + flits_of unit)) refusal.Full _ tt p6.rest in
    let s1 = not-false (store_is e (length store)) p1.test in
    let s2 = not-false (sound e store) p2.test in
    let s3 = not-false (unit_shaped (length unit)) p3.test in
    record {
      its_store = s1;
      is_sound = s2;
      has_shape = s3;
      up = p4.test;
      run = eqb-true _ _ (not-false _ p5.test);
      control = not-false _ p6.test;
      room = ltb-false _ _ p7.test;
      stored = stored_is e (length store) s1;
      state = sound_is e store s2;
      shape = shaped (length unit) s3;
    }
