-- Where n more flits are acknowledged and the flits up to the last border among them leave the store, the sending side stays sound:
-- the walk goes on from that border as before, the numbers lie as far after the new oldest flit as they lay after the border, and
-- the acknowledged number lies inside the unit that begins there.
use mathlib.Core.Bool.{Bool, true, false, cond}
use mathlib.Core.List.{List}
use mathlib.Core.Path.{◌≡◌, refl, sym, ap, ◌∙◌}
use Prim.Native.Nat.{ℕ, suc, ◌+◌, ◌-◌, ◌^◌, ◌<◌, ◌≤◌}
use native.Mathlib.Omega.{arith}
use native.Mathlib.Nat.{add-zero}
use borrow.Author.Tests.{ltb-true, ltb-false}
use lib.Dec.{ltb}
use lib.ListN.{length}
use Rattle.flit_number.specs.Numbers.{width, after, difference}
use Rattle.flit_number.proofs.Laws.{after_lt, difference_split, further}
use Rattle.end_state.specs.Update.{with_acknowledged}
use Rattle.end_state.specs.Ring.{walk_begun, ring_place, walk_over, walked}
use Rattle.end_state.specs.Refusals.{cursor_at, sent_at, acknowledged_at, store_is, sound}
use Rattle.end_state.specs.declared.End.{End}
use Rattle.end_state.specs.declared.walk.Walk.{Walk}
use Rattle.end_state.proofs.Facts.{stored_is, sound_is}
use Rattle.end_state.proofs.Places.{place_under}
use Rattle.std.proofs.lemmas.Bool.{cond_both}
use Rattle.end_state.proofs.Walks.{fair, next_border, sound_before}
use Rattle.receive_test.specs.Arrivals.{past_sent}
use Rattle.receive_free.specs.Acknowledge.{freed_by, freed, sent_anew, acknowledged}
use Rattle.receive_free.proofs.Borders.{border_within, border_found}
use Rattle.receive_state.proofs.Covering.{Fitting}
use Rattle.receive.proofs.Shifted.{walk_on, border_last, begins}
use Rattle.receive.proofs.Sides.{Sending, Sends}

-- a number b flits further on lies b nearer
pub nearer : (x o b : ℕ) → o < 2 ^ 16 → b ≤ difference 16 x o → difference 16 x (after 16 o b) ≡ difference 16 x o - b
unfolding difference after
nearer x o b h k = omega arith

pub none_between : (o : ℕ) → o < 2 ^ 16 → difference 16 o o ≡ 0
unfolding difference
none_between o h = omega arith

-- the cursor at the oldest unit
pub anew_sends : (e : End) (store : List ℕ) → e.oldest.0 < 2 ^ 16 → Sends e store → Sends (sent_anew true e) store
unfolding walk_over walk_begun
anew_sends e store h s =
    let z = none_between e.oldest.0 h in
    record {
      first_in = s.first_in;
      held_in = s.held_in;
      kept_in = s.kept_in;
      cursor_in = omega (arith, z);
      cursor_sent = omega (arith, z);
      sent_in = s.sent_in;
      acknowledged_in = s.acknowledged_in;
      acknowledged_sent = s.acknowledged_sent;
      border = s.border;
      acceptable = s.acceptable;
      cursor_border = ap (λ (m : ℕ). (walked e store m).border) z;
    }

module _ (e : End) (store : List ℕ) (n : ℕ) (fit : Fitting e) (its : store_is e (length store) ≡ true) (ok : sound e store ≡ true)
    (within : past_sent e n ≡ false) where
  -- the flits acknowledged after the oldest, and those of them that leave
  abbrev reach : ℕ
  reach = acknowledged_at e + n

  abbrev gone : ℕ
  gone = freed_by e store n

  reach_sent : reach ≤ sent_at e
  unfolding past_sent
  reach_sent =
      let m = (sound_is e store ok).numbers in
      let d = difference_split width e.oldest.0 e.acknowledged.0 e.sent.0 fit.oldest fit.acknowledged fit.sent m.acknowledged_sent in
      let q = ltb-false (difference width e.sent.0 e.acknowledged.0) n within in
      omega (arith, m.acknowledged_sent)

  sent_held : sent_at e ≤ e.held.0
  sent_held = (sound_is e store ok).numbers.sent

  gone_reach : gone ≤ reach
  gone_reach = border_within e.capacity.0 e.first (walk_begun e.kept.0) store reach

  on_border : (walked e store gone).border ≡ true
  unfolding walk_begun
  on_border = border_found e.capacity.0 e.first (walk_begun e.kept.0) store refl reach

  sound_there : (walked e store gone).sound ≡ true
  sound_there =
      let z : gone + (e.held.0 - gone) ≡ e.held.0 = omega (arith, gone_reach, reach_sent, sent_held) in
      sound_before e store gone (e.held.0 - gone)
      (ap (λ (m : ℕ). (walked e store m).sound) z ∙ (sound_is e store ok).units.acceptable)

  abbrev left_over : ℕ
  left_over = (walked e store gone).run

  -- the walk goes on as before
  onward : (m : ℕ) → gone + m ≤ e.held.0
      → walk_over e.capacity.0 (ring_place e.capacity.0 e.first gone) (walk_begun left_over) store m ≡ walked e store (gone + m)
  onward m h =
      let c = (sound_is e store ok).counts in
      let f = fair e store gone c.kept in
      ap (λ (w : Walk). walk_over e.capacity.0 (ring_place e.capacity.0 e.first gone) w store m)
      (sym (begins (walked e store gone) (f.at_border on_border) on_border sound_there))
      ∙ walk_on e.capacity.0 e.first (walk_begun e.kept.0) store gone m c.first (omega (arith, c.held))

  -- the acknowledged flits that stay lie inside the unit that begins there
  inside_unit : gone < e.held.0 → reach ≤ gone + left_over
  inside_unit h = go (ltb (gone + left_over) reach) refl
    where
      go : (t : Bool) → ltb (gone + left_over) reach ≡ t → reach ≤ gone + left_over
      go false t = ltb-false (gone + left_over) reach t
      go true t =
          let l = ltb-true (gone + left_over) reach t in
          let x = border_last e.capacity.0 e.first (walk_begun e.kept.0) store reach (suc (gone + left_over)) (omega arith) (omega arith) in
          let y = ap (λ (w : Walk). w.border) (next_border e store (sound_is e store ok).counts.kept gone on_border) in
          let z : ◌≡◌ {A = ℕ} 0 1 = cc in
          absurd (omega arith)

  inside_oldest : reach - gone ≤ cond (ltb 0 (e.held.0 - gone)) left_over 0
  inside_oldest =
      cond_both (ltb 0 (e.held.0 - gone)) left_over 0 (λ (m : ℕ). reach - gone ≤ m)
      (λ t.
      let l = ltb-true 0 (e.held.0 - gone) t in
      omega (arith, inside_unit (omega arith)))
      (λ t.
      let l = ltb-false 0 (e.held.0 - gone) t in
      omega (arith, reach_sent, sent_held))

  abbrev oldest_left : ℕ
  oldest_left = after width e.oldest.0 gone

  abbrev first_open : ℕ
  first_open = after width e.acknowledged.0 n

  sent_nearer : difference width e.sent.0 oldest_left ≡ sent_at e - gone
  sent_nearer = nearer e.sent.0 e.oldest.0 gone fit.oldest (omega (arith, gone_reach, reach_sent))

  acknowledged_nearer : difference width first_open oldest_left ≡ reach - gone
  acknowledged_nearer =
      let k = stored_is e (length store) its in
      let c = (sound_is e store ok).counts in
      let h : acknowledged_at e + n < 65536 = omega (arith, reach_sent, sent_held, c.held, k.most) in
      let f = further width e.acknowledged.0 e.oldest.0 n h in
      nearer first_open e.oldest.0 gone fit.oldest (omega (arith, f, gone_reach)) ∙ omega (arith, f)

  -- with a cursor d flits after the new oldest, on a border and not past sent
  freed_sends : (x d : ℕ) → difference width x oldest_left ≡ d → gone + d ≤ sent_at e → (walked e store (gone + d)).border ≡ true
      → Sending e.capacity.0 (ring_place e.capacity.0 e.first gone) (e.held.0 - gone) left_over oldest_left x e.sent.0 first_open store
  freed_sends x d h k b =
      let c = (sound_is e store ok).counts in
      let u = (sound_is e store ok).units in
      let z : gone + (e.held.0 - gone) ≡ e.held.0 = omega (arith, gone_reach, reach_sent, sent_held) in
      let w = onward (e.held.0 - gone) (omega arith) ∙ ap (λ (m : ℕ). walked e store m) z in
      record {
        first_in = place_under e.capacity.0 e.first gone c.first (omega (arith, c.held));
        held_in = omega (arith, c.held);
        kept_in = (fair e store gone c.kept).small sound_there;
        cursor_in = omega (arith, sent_held);
        cursor_sent = omega (arith, sent_nearer);
        sent_in = omega (arith, sent_nearer, sent_held);
        acknowledged_in = omega (arith, acknowledged_nearer, inside_oldest);
        acknowledged_sent = omega (arith, acknowledged_nearer, sent_nearer, reach_sent);
        border = ap (λ (v : Walk). v.border) w ∙ u.border;
        acceptable = ap (λ (v : Walk). v.sound) w ∙ u.acceptable;
        cursor_border =
            ap (λ (m : ℕ). (walk_over e.capacity.0 (ring_place e.capacity.0 e.first gone) (walk_begun left_over) store m).border) h
            ∙ ap (λ (v : Walk). v.border) (onward d (omega (arith, sent_held)))
            ∙ b;
      }

  -- the cursor moves to the oldest unit left where freed units pass it
  passed_by : ltb (cursor_at e) gone ≡ true
      → Sends (sent_anew true (freed (with_acknowledged first_open e) store gone)) store
  unfolding freed
  passed_by t =
      freed_sends oldest_left 0 (none_between oldest_left (after_lt width e.oldest.0 gone)) (omega (arith, gone_reach, reach_sent))
      (ap (λ (m : ℕ). (walked e store m).border) (add-zero gone) ∙ on_border)

  stays_there : ltb (cursor_at e) gone ≡ false → Sends (freed (with_acknowledged first_open e) store gone) store
  unfolding freed
  stays_there t =
      let l = ltb-false (cursor_at e) gone t in
      let s = sound_is e store ok in
      let z : gone + (cursor_at e - gone) ≡ cursor_at e = omega arith in
      freed_sends e.cursor.0 (cursor_at e - gone) (nearer e.cursor.0 e.oldest.0 gone fit.oldest l) (omega (arith, s.numbers.cursor_sent))
      (ap (λ (m : ℕ). (walked e store m).border) z ∙ s.units.cursor)

  pub acknowledged_sends : Sends (acknowledged e store n) store
  unfolding acknowledged
  acknowledged_sends = cond_both (ltb (cursor_at e) gone) _ _ (λ (x : End). Sends x store) passed_by stays_there

-- an acknowledgement leaves what is received as it is, and its numbers fit their type
pub record Apart (e x : End) : Type 0 where
  pub capacity : x.capacity.0 ≡ e.capacity.0
  pub owed : x.owed.0 ≡ e.owed.0
  pub gathered : x.gathered.0 ≡ e.gathered.0
  pub untold : x.untold.0 ≡ e.untold.0
  pub discards : x.discards ≡ e.discards
  pub sent : x.sent.0 ≡ e.sent.0
  pub oldest : x.oldest.0 < 2 ^ 16
  pub acknowledged : x.acknowledged.0 < 2 ^ 16

pub acknowledged_apart : (e : End) (store : List ℕ) (n : ℕ) → Apart e (acknowledged e store n)
unfolding acknowledged freed
acknowledged_apart e store n =
    let x = freed (with_acknowledged (after width e.acknowledged.0 n) e) store (freed_by e store n) in
    let o = after_lt width e.oldest.0 (freed_by e store n) in
    let a = after_lt width e.acknowledged.0 n in
    cond_both (ltb (cursor_at e) (freed_by e store n)) (sent_anew true x) x (Apart e)
    (λ t.
    record { capacity = refl; owed = refl; gathered = refl; untold = refl; discards = refl; sent = refl; oldest = o; acknowledged = a })
    (λ t.
    record { capacity = refl; owed = refl; gathered = refl; untold = refl; discards = refl; sent = refl; oldest = o; acknowledged = a })
