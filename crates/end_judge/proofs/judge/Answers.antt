use mathlib.Core.Bool.{Bool, true, false, ◌&&◌}
use mathlib.Core.List.{List}
use mathlib.Core.Path.{◌≡◌, sym, ap, ap₂, ◌∙◌}
use Prim.Native.Nat.{ℕ}
use native.Mathlib.Omega.{arith}
use lib.ListN.{length}
use Rattle.std.specs.Prelude.{Result, Ok, Err}
use Rattle.end_state.specs.Refusals.{store_is, cursor_at, counts_sound, numbers_sound, units_sound, sound}
use Rattle.end_state.specs.declared.End.{End}
use Rattle.end_state.specs.declared.Refusal.{Refusal}
use Rattle.end_state.specs.declared.Refusal.TheVariants as refusal
use Rattle.end_state.specs.Ring.{walked}
use Rattle.end_state.specs.declared.walk.Walk.{Walk}
use Rattle.std.proofs.lemmas.Bool.{and_left}
use Rattle.end_state.proofs.Tests.{and_l, and_r}
use Rattle.end_state.proofs.Facts.{counted, numbered, stored_is}
use Rattle.end_judge.specs.Judge.{judged}
use Rattle.end_judge.specs.declared.Runs.{Runs}
use Rattle.end_judge.proofs.Judged.{at_store, at_state, past_by}
use Rattle.end_judge.proofs.judge.Goals as goal

both_true : (e : End) (a b : Bool) → a ≡ counts_sound e → b ≡ numbers_sound e → (a && b) ≡ true → (counts_sound e && numbers_sound e) ≡ true
both_true e a b h k l = sym (ap₂ ◌&&◌ h k) ∙ l

pub invariant_of-cut_units : goal.invariant_of-cut_units
invariant_of-cut_units c = let a = c.args in
    let both = both_true a.e _ _ c.counts_sound.ensures c.numbers_sound.ensures c.if-not-counts_sound-numbers_sound.false in
    let k = stored_is a.e _ (sym c.if-not-is_its_store.ensures) in
    record { whole = k.whole; most = k.most; inside = (counted a.e (and_l (counts_sound a.e) (numbers_sound a.e) both)).first }

pub cut_units-cut-requires : goal.cut_units-cut-requires
cut_units-cut-requires c = let a = c.args in
    let both = both_true a.e _ _ c.counts_sound.ensures c.numbers_sound.ensures c.if-not-counts_sound-numbers_sound.false in
    let n = counted a.e (and_l (counts_sound a.e) (numbers_sound a.e) both) in
    let m = numbered a.e (and_r (counts_sound a.e) (numbers_sound a.e) both) in
    omega (arith, c.flits_between-cursor.ensures)

-- the three parts of soundness, from what was found of each
parts_found : (e : End) (store : List ℕ) (a b : Bool) (n : ℕ) (v w : Walk) (t : Bool) → a ≡ counts_sound e → b ≡ numbers_sound e → (a && b) ≡ true
    → n ≡ cursor_at e
    → v ≡ walked e store n
    → w ≡ walked e store e.held.0
    → (w.border && w.sound && v.border) ≡ t
    → sound e store ≡ t
unfolding sound units_sound
parts_found e store a b n v w t h k l p q r u = cc

-- the counts or the numbers are not sound
not_sound : (e : End) (store : List ℕ) (a b : Bool) → a ≡ counts_sound e → b ≡ numbers_sound e → (a && b) ≡ false → sound e store ≡ false
unfolding sound
not_sound e store a b h k l = and_left (counts_sound e && numbers_sound e) (units_sound e store) (sym (ap₂ ◌&&◌ h k) ∙ l)

store_refused : (e : End) (store : List ℕ) → store_is e (length store) ≡ false → Err refusal.Store ≡ judged e store
unfolding judged
store_refused e store h = sym (at_store (store_is e (length store)) (sound e store) (Ok _) h)

state_refused : (e : End) (store : List ℕ) → store_is e (length store) ≡ true → sound e store ≡ false → Err refusal.State ≡ judged e store
unfolding judged
state_refused e store h k = sym (at_state (store_is e (length store)) (sound e store) (Ok _) h k)

abbrev runs : ℕ → ℕ → Result Runs Refusal
runs v w = Ok (record { previous = record { 0 = v }; last = record { 0 = w } })

runs_found : (e : End) (store : List ℕ) (n : ℕ) (v w : Walk) → store_is e (length store) ≡ true → sound e store ≡ true → n ≡ cursor_at e
    → v ≡ walked e store n
    → w ≡ walked e store e.held.0
    → runs v.run w.run ≡ judged e store
unfolding judged
runs_found e store n v w h k p q r =
    ap₂ runs
    (ap (λ (x : Walk). x.run) q ∙ ap (λ (m : ℕ). (walked e store m).run) p)
    (ap (λ (x : Walk). x.run) r)
    ∙ sym (past_by (store_is e (length store)) (sound e store) (Ok _) h k)

pub returns-then-not-is_its_store : goal.returns-then-not-is_its_store
returns-then-not-is_its_store c = store_refused c.args.e c.args.store.now (sym c.if-not-is_its_store.ensures)

pub returns-then-not-counts_sound-numbers_sound : goal.returns-then-not-counts_sound-numbers_sound
returns-then-not-counts_sound-numbers_sound c = let a = c.args in
    state_refused a.e a.store.now (sym c.if-not-is_its_store.ensures)
    (not_sound a.e a.store.now c.counts_sound.result c.numbers_sound.result c.counts_sound.ensures c.numbers_sound.ensures
    c.if-not-counts_sound-numbers_sound.true)

pub returns-then-not-cut : goal.returns-then-not-cut
returns-then-not-cut c = let a = c.args in
    let k = c.cut_units-cut in
    state_refused a.e a.store.now (sym c.if-not-is_its_store.ensures)
    (parts_found a.e a.store.now c.counts_sound.result c.numbers_sound.result c.flits_between-cursor.result.0 k.result.cursor k.result.whole false
    c.counts_sound.ensures c.numbers_sound.ensures c.if-not-counts_sound-numbers_sound.false c.flits_between-cursor.ensures
    k.ensures.cursor_value k.ensures.whole_value c.if-not-cut.true)

pub returns : goal.returns
returns c = let a = c.args in
    let k = c.cut_units-cut in
    runs_found a.e a.store.now c.flits_between-cursor.result.0 k.result.cursor k.result.whole (sym c.if-not-is_its_store.ensures)
    (parts_found a.e a.store.now c.counts_sound.result c.numbers_sound.result c.flits_between-cursor.result.0 k.result.cursor k.result.whole true
    c.counts_sound.ensures c.numbers_sound.ensures c.if-not-counts_sound-numbers_sound.false c.flits_between-cursor.ensures
    k.ensures.cursor_value k.ensures.whole_value c.if-not-cut.false)
    c.flits_between-cursor.ensures k.ensures.cursor_value k.ensures.whole_value
