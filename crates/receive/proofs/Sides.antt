-- A sound state as its two sides: what is sent, over the ring, and what is received. Each is a record over the numbers that it is
-- about, so that a change to the other side leaves it as it is.
use mathlib.Core.Bool.{Bool, true, not, ◌&&◌, ◌||◌, cond}
use mathlib.Core.List.{List}
use mathlib.Core.Path.{◌≡◌}
use Prim.Native.Nat.{ℕ, ◌<◌, ◌≤◌}
use borrow.Author.Tests.{lt-ltb, le-leb}
use lib.Dec.{ltb, leb, eqb}
use Rattle.flit_number.specs.Numbers.{width, difference}
use Rattle.end_state.specs.Ring.{walk_begun, walk_over}
use Rattle.end_state.specs.Refusals.{counts_sound, sound}
use Rattle.end_state.specs.declared.End.{End}
use Rattle.end_state.proofs.Facts.{sound_is}
use Rattle.end_state.proofs.Holds.{sound_holds, counts_of, numbers_hold, units_hold}
use Rattle.std.proofs.lemmas.Bool.{and_from}
use Rattle.end_state.proofs.Tests.{and_l, and_r}

pub record Sending (capacity first held kept oldest cursor sent acknowledged : ℕ) (store : List ℕ) : Type 0 where
  pub first_in : first < capacity
  pub held_in : held ≤ capacity
  pub kept_in : kept ≤ 8
  pub cursor_in : difference width cursor oldest ≤ held
  pub cursor_sent : difference width cursor oldest ≤ difference width sent oldest
  pub sent_in : difference width sent oldest ≤ held
  pub acknowledged_in : difference width acknowledged oldest ≤ cond (ltb 0 held) kept 0
  pub acknowledged_sent : difference width acknowledged oldest ≤ difference width sent oldest
  pub border : (walk_over capacity first (walk_begun kept) store held).border ≡ true
  pub acceptable : (walk_over capacity first (walk_begun kept) store held).sound ≡ true
  pub cursor_border : (walk_over capacity first (walk_begun kept) store (difference width cursor oldest)).border ≡ true

abbrev pub Sends : End → List ℕ → Type 0
Sends e store =
    Sending e.capacity.0 e.first e.held.0 e.kept.0 e.oldest.0 e.cursor.0 e.sent.0 e.acknowledged.0 store

pub record Receiving (owed gathered untold discards : ℕ) (stalled : Bool) : Type 0 where
  pub owed_in : owed ≤ 8
  pub gathered_in : gathered ≤ owed
  pub none_stalled : (not stalled || eqb gathered 0) ≡ true
  pub untold_in : untold ≤ 1024
  pub discards_in : discards ≤ 63

abbrev pub Receives : End → Type 0
Receives e = Receiving e.owed.0 e.gathered.0 e.untold.0 e.discards e.stalled

-- a sound state has both
pub sending : (e : End) (store : List ℕ) → sound e store ≡ true → Sends e store
sending e store h =
    let s = sound_is e store h in
    record {
      first_in = s.counts.first;
      held_in = s.counts.held;
      kept_in = s.counts.kept;
      cursor_in = s.numbers.cursor;
      cursor_sent = s.numbers.cursor_sent;
      sent_in = s.numbers.sent;
      acknowledged_in = s.numbers.acknowledged;
      acknowledged_sent = s.numbers.acknowledged_sent;
      border = s.units.border;
      acceptable = s.units.acceptable;
      cursor_border = s.units.cursor;
    }

none_while_stalled : (e : End) → counts_sound e ≡ true → (not e.stalled || eqb e.gathered.0 0) ≡ true
unfolding counts_sound
none_while_stalled e h =
    let front =
    ltb e.first e.capacity.0
    && leb e.held.0 e.capacity.0
    && leb e.kept.0 8
    && leb e.owed.0 8
    && leb e.gathered.0 e.owed.0 in
    let it = not e.stalled || eqb e.gathered.0 0 in
    let a = leb e.untold.0 1024 in
    let b = leb e.discards 63 in
    and_r front it (and_l (front && it) a (and_l (front && it && a) b h))

pub receiving : (e : End) (store : List ℕ) → sound e store ≡ true → Receives e
receiving e store h =
    let s = sound_is e store h in
    record {
      owed_in = s.counts.owed;
      gathered_in = s.counts.gathered;
      none_stalled = none_while_stalled e (counts_of e store h);
      untold_in = s.counts.untold;
      discards_in = s.counts.discards;
    }

-- and a state that has both is sound
counts_hold : (e : End) (store : List ℕ) → Sends e store → Receives e → counts_sound e ≡ true
unfolding counts_sound
counts_hold e store s r =
    let a = ltb e.first e.capacity.0 in
    let b = leb e.held.0 e.capacity.0 in
    let c = leb e.kept.0 8 in
    let d = leb e.owed.0 8 in
    let f = leb e.gathered.0 e.owed.0 in
    let g = not e.stalled || eqb e.gathered.0 0 in
    let i = leb e.untold.0 1024 in
    let j = leb e.discards 63 in
    and_from (a && b && c && d && f && g && i) j
    (and_from (a && b && c && d && f && g) i
    (and_from (a && b && c && d && f) g
    (and_from (a && b && c && d) f
    (and_from (a && b && c) d
    (and_from (a && b) c
    (and_from a b (lt-ltb e.first e.capacity.0 s.first_in) (le-leb e.held.0 e.capacity.0 s.held_in))
    (le-leb e.kept.0 8 s.kept_in))
    (le-leb e.owed.0 8 r.owed_in))
    (le-leb e.gathered.0 e.owed.0 r.gathered_in))
    r.none_stalled)
    (le-leb e.untold.0 1024 r.untold_in))
    (le-leb e.discards 63 r.discards_in)

pub both_sound : (e : End) (store : List ℕ) → Sends e store → Receives e → sound e store ≡ true
both_sound e store s r =
    sound_holds e store (counts_hold e store s r)
    (numbers_hold e s.cursor_in s.cursor_sent s.sent_in s.acknowledged_in s.acknowledged_sent)
    (units_hold e store s.border s.acceptable s.cursor_border)
