-- A sound state stays sound under accept. The walk over the flits held before is as it was, and the new unit carries it on to the
-- next border, with the run length of the unit's control flit.
use mathlib.Core.Bool.{Bool, true, ◌&&◌, cond}
use mathlib.Core.List.{List}
use mathlib.Core.Path.{◌≡◌, refl, sym, ap, ap₂, ◌∙◌}
use Prim.Native.Nat.{ℕ, suc, ◌+◌, ◌-◌, ◌<◌, ◌≤◌}
use native.Mathlib.Omega.{arith}
use borrow.Author.Tests.{lt-ltb, le-leb}
use lib.Dec.{ltb}
use lib.ListN.{length}
use Rattle.flit_read.specs.Bytes.{read}
use Rattle.flit_read.specs.Fields.{content, run_length, acceptable}
use Rattle.end_state.specs.Update.{with_held}
use Rattle.end_state.specs.Ring.{walk_begun, stored, walked}
use Rattle.end_state.specs.Refusals.{cursor_at, sent_at, acknowledged_at, store_is, counts_sound, numbers_sound, units_sound, sound}
use Rattle.std.specs.Prelude.{Result, Ok, Err}
use Rattle.end_state.specs.declared.End.{End}
use Rattle.end_state.specs.declared.Refusal.{Refusal}
use Rattle.end_state.specs.declared.walk.Walk.{Walk}
use Rattle.std.proofs.lemmas.Bool.{and_from, cond-true, cond_both}
use Rattle.end_state.proofs.Tests.{and_l, and_r}
use Rattle.end_state.proofs.Facts.{numbered}
use Rattle.end_state.proofs.Places.{walk_same}
use Rattle.end_state.proofs.Walks.{next_border}
use Rattle.accept_verdict.specs.Admission.{flits_of, control_of, accept_verdict}
use Rattle.accept_verdict.proofs.Admitted.{Admission, admission}
use Rattle.accept.specs.Accept.{accept, accept_store}
use Rattle.accept.proofs.Unchanged.{refused_changes_nothing}
use Rattle.accept.proofs.Stored.{admitted_end, length_kept, stored_in_order, stored_before, last_flit}

-- the store, the counts and the numbers of an end that holds more
more_store : (e : End) (n bytes : ℕ) → store_is e bytes ≡ true → store_is (with_held n e) bytes ≡ true
unfolding store_is
more_store e n bytes h = h

more_counts : (e : End) (n : ℕ) → counts_sound e ≡ true → e.held.0 ≤ e.capacity.0 → n ≤ e.capacity.0
    → counts_sound (with_held n e) ≡ true
unfolding counts_sound
more_counts e n h k m = cc (le-leb e.held.0 e.capacity.0 k, le-leb n e.capacity.0 m)

more_numbers : (e : End) (n : ℕ) → numbers_sound e ≡ true → e.held.0 ≤ n → 0 < n → numbers_sound (with_held n e) ≡ true
unfolding numbers_sound
more_numbers e n h k z =
    let f = numbered e h in
    let p = cond_both (ltb 0 e.held.0) e.kept.0 0 (λ (x : ℕ). x ≤ e.kept.0) (λ t. omega arith) (λ t. omega arith) in
    let q : acknowledged_at e ≤ e.kept.0 = omega (arith, p, f.acknowledged) in
    let r : cond (ltb 0 n) e.kept.0 0 ≡ e.kept.0 = cond-true (ltb 0 n) e.kept.0 0 (lt-ltb 0 n z) in
    cc (
      le-leb (cursor_at e) e.held.0 f.cursor,
      le-leb (cursor_at e) n (omega (arith, f.cursor)),
      le-leb (sent_at e) e.held.0 f.sent,
      le-leb (sent_at e) n (omega (arith, f.sent)),
      le-leb (acknowledged_at e) (cond (ltb 0 e.held.0) e.kept.0 0) f.acknowledged,
      le-leb (acknowledged_at e) e.kept.0 q,
    )

-- the walk on the border past a control flit
abbrev pub on_border : List ℕ → Walk
on_border control =
    record { left = read run_length (content control); run = read run_length (content control); border = true; sound = true }

module _ (e : End) (store unit : List ℕ) (admitted : accept_verdict e store unit ≡ Ok tt) where
  facts : Admission e store unit
  facts = admission e store unit admitted

  abbrev after : List ℕ
  after = accept_store e store unit

  flit_before : (n : ℕ) → n < e.held.0 → stored e after n ≡ stored e store n
  flit_before n h = sym (ap (λ (a : End). stored a after n) (admitted_end e store unit admitted)) ∙ stored_before e store unit admitted n h

  before : (n : ℕ) → n ≤ e.held.0 → walked e after n ≡ walked e store n
  before n h =
      walk_same e.capacity.0 e.first (walk_begun e.kept.0) after store n (λ i k. flit_before i (omega arith))

  -- the control flit stands last
  control_stored : (n : ℕ) → n ≡ flits_of unit - 1 → stored e after (e.held.0 + n) ≡ control_of unit
  control_stored n h =
      let f = facts in
      ap (λ (m : ℕ). stored e after (e.held.0 + m)) h
      ∙ sym (ap (λ (a : End). stored a after (e.held.0 + (flits_of unit - 1))) (admitted_end e store unit admitted))
      ∙ stored_in_order e store unit admitted (flits_of unit - 1) (omega (arith, f.shape))
      ∙ last_flit unit f.shape.whole f.shape.least

  grown : walked e after (e.held.0 + flits_of unit) ≡ on_border (control_of unit)
  grown =
      let f = facts in
      let w = before e.held.0 (omega arith) in
      let b : (walked e after e.held.0).border ≡ true = ap (λ (v : Walk). v.border) w ∙ f.state.units.border in
      let s : (walked e after e.held.0).sound ≡ true = ap (λ (v : Walk). v.sound) w ∙ f.state.units.acceptable in
      let r : (walked e after e.held.0).run ≡ flits_of unit - 1 = ap (λ (v : Walk). v.run) w ∙ sym f.run in
      let k = control_stored (walked e after e.held.0).run r in
      let n : e.held.0 + flits_of unit ≡ suc (e.held.0 + (walked e after e.held.0).run) = omega (arith, r, f.shape) in
      ap (λ (m : ℕ). walked e after m) n
      ∙ next_border e after f.state.counts.kept e.held.0 b
      ∙ ap₂ (λ (c : List ℕ) (t : Bool). ended c (t && acceptable c)) k s
      ∙ ap (λ (t : Bool). ended (control_of unit) t) f.control
    where
      ended : List ℕ → Bool → Walk
      ended c t = record { left = read run_length (content c); run = read run_length (content c); border = true; sound = t }

  -- an admitted call leaves a sound state
  more_units : units_sound (with_held (e.held.0 + flits_of unit) e) after ≡ true
  unfolding units_sound
  more_units =
      let f = facts in
      let c : (walked e after (cursor_at e)).border ≡ true =
      ap (λ (v : Walk). v.border) (before (cursor_at e) f.state.numbers.cursor) ∙ f.state.units.cursor in
      let b : (walked e after (e.held.0 + flits_of unit)).border ≡ true = ap (λ (v : Walk). v.border) grown in
      let s : (walked e after (e.held.0 + flits_of unit)).sound ≡ true = ap (λ (v : Walk). v.sound) grown in
      cc (b, s, c)

  pub admitted_store_is : store_is (accept e store unit).end (length after) ≡ true
  admitted_store_is =
      ap₂ (λ (a : End) (n : ℕ). store_is a n) (admitted_end e store unit admitted) (length_kept e store unit admitted)
      ∙ more_store e (e.held.0 + flits_of unit) (length store) facts.its_store

  pub admitted_sound : sound (accept e store unit).end after ≡ true
  unfolding sound
  admitted_sound =
      let f = facts in
      let n = e.held.0 + flits_of unit in
      let s = f.is_sound in
      let both = and_l (counts_sound e && numbers_sound e) (units_sound e store) s in
      let x = more_counts e n (and_l (counts_sound e) (numbers_sound e) both) f.state.counts.held f.room in
      let y = more_numbers e n (and_r (counts_sound e) (numbers_sound e) both) (omega arith) (omega (arith, f.shape)) in
      ap (λ (a : End). sound a after) (admitted_end e store unit admitted)
      ∙ and_from (counts_sound (with_held n e) && numbers_sound (with_held n e)) (units_sound (with_held n e) after)
      (and_from (counts_sound (with_held n e)) (numbers_sound (with_held n e)) x y) more_units

-- a sound state stays sound, whatever accept answers
pub stays_sound : (e : End) (store unit : List ℕ) → store_is e (length store) ≡ true → sound e store ≡ true
    → (store_is (accept e store unit).end (length (accept_store e store unit)) ≡ true)
    × (sound (accept e store unit).end (accept_store e store unit) ≡ true)
stays_sound e store unit h k = go (accept_verdict e store unit) refl
  where
    go : (v : Result (Unit {0}) Refusal) → accept_verdict e store unit ≡ v
        → (store_is (accept e store unit).end (length (accept_store e store unit)) ≡ true)
        × (sound (accept e store unit).end (accept_store e store unit) ≡ true)
    go (Err r) t = let u = refused_changes_nothing e store unit r t in (cc (h, u.0, u.1), cc (k, u.0, u.1))
    go (Ok u) t = (admitted_store_is e store unit t, admitted_sound e store unit t)
