-- The tests of specs/Refusals.antt hold where the numbers are so, the other way round from Facts; and what does not touch soundness.
use mathlib.Core.Bool.{Bool, true, not, ◌&&◌, ◌||◌, cond}
use mathlib.Core.List.{List}
use mathlib.Core.Path.{◌≡◌}
use Prim.Native.Nat.{ℕ, ◌≤◌}
use borrow.Author.Tests.{le-leb}
use lib.Dec.{ltb, leb, eqb}
use Rattle.end_state.specs.Update.{with_untold, with_pending}
use Rattle.end_state.specs.Ring.{walked}
use Rattle.end_state.specs.Refusals.{cursor_at, sent_at, acknowledged_at, counts_sound, numbers_sound, units_sound, sound}
use Rattle.end_state.specs.declared.End.{End}
use Rattle.std.proofs.lemmas.Bool.{and_from}
use Rattle.end_state.proofs.Tests.{and_l, and_r}

-- the three parts of soundness
pub sound_holds : (e : End) (store : List ℕ) → counts_sound e ≡ true → numbers_sound e ≡ true → units_sound e store ≡ true → sound e store ≡ true
unfolding sound
sound_holds e store h k l =
    and_from (counts_sound e && numbers_sound e) (units_sound e store) (and_from (counts_sound e) (numbers_sound e) h k) l

pub counts_of : (e : End) (store : List ℕ) → sound e store ≡ true → counts_sound e ≡ true
unfolding sound
counts_of e store h =
    and_l (counts_sound e) (numbers_sound e) (and_l (counts_sound e && numbers_sound e) (units_sound e store) h)

pub numbers_of : (e : End) (store : List ℕ) → sound e store ≡ true → numbers_sound e ≡ true
unfolding sound
numbers_of e store h =
    and_r (counts_sound e) (numbers_sound e) (and_l (counts_sound e && numbers_sound e) (units_sound e store) h)

pub units_of : (e : End) (store : List ℕ) → sound e store ≡ true → units_sound e store ≡ true
unfolding sound
units_of e store h = and_r (counts_sound e && numbers_sound e) (units_sound e store) h

pub numbers_hold : (e : End) → cursor_at e ≤ e.held.0 → cursor_at e ≤ sent_at e → sent_at e ≤ e.held.0
    → acknowledged_at e ≤ cond (ltb 0 e.held.0) e.kept.0 0 → acknowledged_at e ≤ sent_at e
    → numbers_sound e ≡ true
unfolding numbers_sound
numbers_hold e h k l m n =
    let a = leb (cursor_at e) e.held.0 in
    let b = leb (cursor_at e) (sent_at e) in
    let c = leb (sent_at e) e.held.0 in
    let d = leb (acknowledged_at e) (cond (ltb 0 e.held.0) e.kept.0 0) in
    let f = leb (acknowledged_at e) (sent_at e) in
    and_from (a && b && c && d) f
    (and_from (a && b && c) d
    (and_from (a && b) c (and_from a b (le-leb (cursor_at e) e.held.0 h) (le-leb (cursor_at e) (sent_at e) k))
    (le-leb (sent_at e) e.held.0 l))
    (le-leb (acknowledged_at e) (cond (ltb 0 e.held.0) e.kept.0 0) m))
    (le-leb (acknowledged_at e) (sent_at e) n)

pub units_hold : (e : End) (store : List ℕ) → (walked e store e.held.0).border ≡ true → (walked e store e.held.0).sound ≡ true
    → (walked e store (cursor_at e)).border ≡ true → units_sound e store ≡ true
unfolding units_sound
units_hold e store h k l =
    and_from ((walked e store e.held.0).border && (walked e store e.held.0).sound) (walked e store (cursor_at e)).border
    (and_from (walked e store e.held.0).border (walked e store e.held.0).sound h k) l

-- another untold, and no replay pending
untold_counts : (e : End) (n : ℕ) → n ≤ 1024 → counts_sound e ≡ true → counts_sound (with_untold n e) ≡ true
unfolding counts_sound
untold_counts e n h c =
    let rest =
    ltb e.first e.capacity.0
    && leb e.held.0 e.capacity.0
    && leb e.kept.0 8
    && leb e.owed.0 8
    && leb e.gathered.0 e.owed.0
    && (not e.stalled || eqb e.gathered.0 0) in
    let x = and_l (rest && leb e.untold.0 1024) (leb e.discards 63) c in
    and_from (rest && leb n 1024) (leb e.discards 63)
    (and_from rest (leb n 1024) (and_l rest (leb e.untold.0 1024) x) (le-leb n 1024 h))
    (and_r (rest && leb e.untold.0 1024) (leb e.discards 63) c)

pub untold_sound : (e : End) (store : List ℕ) (n : ℕ) → n ≤ 1024 → sound e store ≡ true → sound (with_untold n e) store ≡ true
unfolding numbers_sound units_sound
untold_sound e store n h s =
    sound_holds (with_untold n e) store (untold_counts e n h (counts_of e store s)) (numbers_of e store s) (units_of e store s)

pub pending_sound : (e : End) (store : List ℕ) (b : Bool) → sound e store ≡ true → sound (with_pending b e) store ≡ true
unfolding counts_sound numbers_sound units_sound
pending_sound e store b s = sound_holds (with_pending b e) store (counts_of e store s) (numbers_of e store s) (units_of e store s)
