-- An end stays sound with its store, whatever send answers. Past a unit the cursor stands on the next border, and sent is the further
-- of the two.
use mathlib.Core.Bool.{true, false, cond}
use mathlib.Core.List.{List}
use mathlib.Core.Path.{◌≡◌, refl, ap, ◌∙◌}
use Prim.Native.Nat.{ℕ, suc, ◌+◌, ◌<◌, ◌≤◌}
use native.Mathlib.Omega.{arith}
use borrow.Author.Tests.{ltb-true, ltb-false}
use lib.Dec.{ltb}
use lib.ListN.{length}
use Rattle.flit_number.specs.Numbers.{width, after, difference}
use Rattle.flit_number.proofs.Laws.{further}
use Rattle.end_state.specs.Update.{with_untold, with_pending}
use Rattle.end_state.specs.Ring.{walked}
use Rattle.end_state.specs.Refusals.{cursor_at, sent_at, store_is, counts_sound, sound, previous_run}
use Rattle.end_state.specs.declared.End.{End}
use Rattle.end_state.specs.declared.Refusal.{Refusal}
use Rattle.std.specs.Prelude.{Result, Ok, Err}
use Rattle.end_state.specs.declared.walk.Walk.{Walk}
use Rattle.std.proofs.lemmas.Bool.{cond_both}
use Rattle.end_state.proofs.Facts.{stored_is, sound_is}
use Rattle.end_state.proofs.Holds.{sound_holds, counts_of, numbers_hold, units_hold, untold_sound, pending_sound}
use Rattle.end_state.proofs.Walks.{next_border}
use Rattle.send_state.specs.Moves.{fallen, past_unit, moved}
use Rattle.send.specs.Send.{send_verdict, sent_by, send}
use Rattle.send.proofs.Cases.{admitted}
use Rattle.send_burst.proofs.Ready.{unit_whole}

-- ---- what holds in each case holds of the end after it

pub moved_either : (P : End → Type 0) (e : End) (run : ℕ) → P (with_untold 0 (with_pending false e)) → P (with_untold (fallen e.untold.0) e)
    → (cursor_at e < e.held.0 → P (with_untold (cond (ltb 0 run) (fallen (fallen e.untold.0)) (fallen e.untold.0)) (past_unit e run)))
    → P (moved e run)
unfolding moved
moved_either P e run f g h =
    cond_both e.pending _ _ P (λ t. f)
    (λ t. cond_both (ltb (cursor_at e) e.held.0) _ _ P (λ v. h (ltb-true (cursor_at e) e.held.0 v)) (λ v. g))

pub send_either : (P : End → Type 0) (e : End) (store : List ℕ) (n : ℕ) → P e → (send_verdict e store n ≡ Ok tt → P (moved e (previous_run e store)))
    → P (send e store n).end
unfolding send
send_either P e store n f g = go (send_verdict e store n) refl
  where
    go : (v : Result (Unit {0}) Refusal) → send_verdict e store n ≡ v → P (sent_by v e (previous_run e store)).end
    go (Err r) h = f
    go (Ok u) h = g h

-- ---- past a unit

-- where sent is afterwards
record Further (e : End) (to x : ℕ) : Type 0 where
  pub to_it : to ≤ difference width x e.oldest.0
  pub grows : sent_at e ≤ difference width x e.oldest.0
  pub held : difference width x e.oldest.0 ≤ e.held.0

module _ (e : End) (store : List ℕ) (ok : sound e store ≡ true) (most : e.capacity.0 ≤ 1024) (waits : cursor_at e < e.held.0) where
  abbrev run : ℕ
  run = previous_run e store

  inside : cursor_at e + (run + 1) ≤ e.held.0
  inside = omega (arith, unit_whole e store ok waits)

  cursor_moved : difference width (after width e.cursor.0 (run + 1)) e.oldest.0 ≡ cursor_at e + (run + 1)
  cursor_moved =
      let s = sound_is e store ok in
      let h : cursor_at e + (run + 1) < 65536 = omega (arith, inside, s.counts.held) in
      further width e.cursor.0 e.oldest.0 (run + 1) h

  sent_moved : Further e (cursor_at e + (run + 1)) (past_unit e run).sent.0
  sent_moved =
      let s = sound_is e store ok in
      cond_both (ltb (sent_at e) (cursor_at e + (run + 1))) (after width e.cursor.0 (run + 1)) e.sent.0 (Further e (cursor_at e + (run + 1)))
      (λ t.
      let l = ltb-true (sent_at e) (cursor_at e + (run + 1)) t in
      record { to_it = omega (arith, cursor_moved); grows = omega (arith, cursor_moved); held = omega (arith, cursor_moved, inside) })
      (λ t. record { to_it = ltb-false (sent_at e) (cursor_at e + (run + 1)) t; grows = omega arith; held = s.numbers.sent })

  border_moved : (walked e store (cursor_at (past_unit e run))).border ≡ true
  border_moved =
      let s = sound_is e store ok in
      let z : cursor_at e + (run + 1) ≡ suc (cursor_at e + run) = omega arith in
      ap (λ (m : ℕ). (walked e store m).border) (cursor_moved ∙ z)
      ∙ ap (λ (w : Walk). w.border) (next_border e store s.counts.kept (cursor_at e) s.units.cursor)

  past_sound : sound (past_unit e run) store ≡ true
  unfolding counts_sound
  past_sound =
      let s = sound_is e store ok in
      let m = sent_moved in
      sound_holds (past_unit e run) store (counts_of e store ok)
      (numbers_hold (past_unit e run) (omega (arith, cursor_moved, inside)) (omega (arith, cursor_moved, m.to_it)) m.held s.numbers.acknowledged
      (omega (arith, m.grows, s.numbers.acknowledged_sent)))
      (units_hold (past_unit e run) store s.units.border s.units.acceptable border_moved)

-- ---- after send

pub stays_sound : (e : End) (store : List ℕ) (n : ℕ) → sound e store ≡ true → sound (send e store n).end store ≡ true
stays_sound e store n ok =
    let u = (sound_is e store ok).counts.untold in
    let run = previous_run e store in
    send_either (λ (x : End). sound x store ≡ true) e store n ok
    (λ a.
    moved_either (λ (x : End). sound x store ≡ true) e run (untold_sound (with_pending false e) store 0 (omega arith) (pending_sound e store false ok))
    (untold_sound e store (fallen e.untold.0) (omega arith) ok)
    (λ w.
    untold_sound (past_unit e run) store (cond (ltb 0 run) (fallen (fallen e.untold.0)) (fallen e.untold.0))
    (cond_both (ltb 0 run) (fallen (fallen e.untold.0)) (fallen e.untold.0) (λ (x : ℕ). x ≤ 1024) (λ t. omega arith) (λ t. omega arith))
    (past_sound e store ok (stored_is e (length store) (admitted e store n a).its_store).most w)))

-- and the store stays its own
pub keeps_store : (e : End) (store : List ℕ) (n bytes : ℕ) → store_is (send e store n).end bytes ≡ store_is e bytes
unfolding store_is
keeps_store e store n bytes =
    send_either (λ (x : End). store_is x bytes ≡ store_is e bytes) e store n refl
    (λ a. moved_either (λ (x : End). store_is x bytes ≡ store_is e bytes) e (previous_run e store) refl refl (λ w. refl))
