-- What the tests of specs/Refusals.antt say of the numbers, as records that `omega` reads.
use mathlib.Core.Bool.{true, ◌&&◌, cond}
use mathlib.Core.List.{List}
use mathlib.Core.Path.{◌≡◌}
use Prim.Native.Nat.{ℕ, ◌*◌, ◌/◌, ◌%◌, ◌<◌, ◌≤◌}
use native.Mathlib.Omega.{arith}
use borrow.Author.Tests.{ltb-true, leb-true, eqb-true}
use lib.Dec.{ltb}
use Rattle.end_state.specs.State.{store_fits}
use Rattle.end_state.specs.Ring.{walked}
use Rattle.end_state.specs.Refusals.{cursor_at, sent_at, acknowledged_at, store_is, counts_sound, numbers_sound, units_sound, sound}
use Rattle.end_state.specs.declared.End.{End}
use Rattle.end_state.proofs.Tests.{and_l, and_r}

-- 1 STORE is not given
pub record Stored (e : End) (bytes : ℕ) : Type 0 where
  pub whole : bytes ≡ e.capacity.0 * 64
  pub least : 9 ≤ e.capacity.0
  pub most : e.capacity.0 ≤ 1024

pub stored_is : (e : End) (bytes : ℕ) → store_is e bytes ≡ true → Stored e bytes
unfolding store_is store_fits
stored_is e bytes h =
    let a : bytes % 64 ≡ 0 = search (and_l, and_r, eqb-true) depth 10 in
    let b : 9 ≤ bytes / 64 = search (and_l, and_r, leb-true) depth 10 in
    let c : bytes / 64 ≤ 1024 = search (and_l, and_r, leb-true) depth 10 in
    let d : bytes / 64 ≡ e.capacity.0 = search (and_l, and_r, eqb-true) depth 10 in
    record { whole = omega arith; least = omega arith; most = omega arith }

-- 2 STATE is not given: the counts
pub record Counted (e : End) : Type 0 where
  pub first : e.first < e.capacity.0
  pub held : e.held.0 ≤ e.capacity.0
  pub kept : e.kept.0 ≤ 8
  pub owed : e.owed.0 ≤ 8
  pub gathered : e.gathered.0 ≤ e.owed.0
  pub untold : e.untold.0 ≤ 1024
  pub discards : e.discards ≤ 63

pub counted : (e : End) → counts_sound e ≡ true → Counted e
unfolding counts_sound
counted e h =
    record {
      first = search (and_l, and_r, ltb-true) depth 12;
      held = search (and_l, and_r, leb-true) depth 12;
      kept = search (and_l, and_r, leb-true) depth 12;
      owed = search (and_l, and_r, leb-true) depth 12;
      gathered = search (and_l, and_r, leb-true) depth 12;
      untold = search (and_l, and_r, leb-true) depth 12;
      discards = search (and_l, and_r, leb-true) depth 12;
    }

-- the numbers
pub record Numbered (e : End) : Type 0 where
  pub cursor : cursor_at e ≤ e.held.0
  pub cursor_sent : cursor_at e ≤ sent_at e
  pub sent : sent_at e ≤ e.held.0
  pub acknowledged : acknowledged_at e ≤ cond (ltb 0 e.held.0) e.kept.0 0
  pub acknowledged_sent : acknowledged_at e ≤ sent_at e

pub numbered : (e : End) → numbers_sound e ≡ true → Numbered e
unfolding numbers_sound
numbered e h =
    record {
      cursor = search (and_l, and_r, leb-true) depth 12;
      cursor_sent = search (and_l, and_r, leb-true) depth 12;
      sent = search (and_l, and_r, leb-true) depth 12;
      acknowledged = search (and_l, and_r, leb-true) depth 12;
      acknowledged_sent = search (and_l, and_r, leb-true) depth 12;
    }

-- the units
pub record Cut (e : End) (store : List ℕ) : Type 0 where
  pub border : (walked e store e.held.0).border ≡ true
  pub acceptable : (walked e store e.held.0).sound ≡ true
  pub cursor : (walked e store (cursor_at e)).border ≡ true

pub cut_is : (e : End) (store : List ℕ) → units_sound e store ≡ true → Cut e store
unfolding units_sound
cut_is e store h =
    record {
      border = search (and_l, and_r) depth 10;
      acceptable = search (and_l, and_r) depth 10;
      cursor = search (and_l, and_r) depth 10;
    }

pub record Sound (e : End) (store : List ℕ) : Type 0 where
  pub counts : Counted e
  pub numbers : Numbered e
  pub units : Cut e store

pub sound_is : (e : End) (store : List ℕ) → sound e store ≡ true → Sound e store
unfolding sound
sound_is e store h =
    let both = and_l (counts_sound e && numbers_sound e) (units_sound e store) h in
    record {
      counts = counted e (and_l (counts_sound e) (numbers_sound e) both);
      numbers = numbered e (and_r (counts_sound e) (numbers_sound e) both);
      units = cut_is e store (and_r (counts_sound e && numbers_sound e) (units_sound e store) h);
    }
