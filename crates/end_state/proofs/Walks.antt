-- The walk over the held flits. On a border the data flits to come are those of the unit that begins there; past j of them the walk
-- is inside that unit, and past its control flit on the next border. So between two borders lie whole units.
use mathlib.Core.Bool.{Bool, true, false, ◌&&◌, cond}
use mathlib.Core.List.{List}
use mathlib.Core.Path.{◌≡◌, refl, sym, ap, ◌∙◌, subst}
use Prim.Native.Nat.{ℕ, zero, suc, ◌+◌, ◌-◌, ◌<◌, ◌≤◌}
use native.Mathlib.Omega.{arith}
use native.Mathlib.Nat.{add-suc, add-zero}
use native.Mathlib.Numerals.{add-one}
use borrow.Author.Tests.{ltb-true, ltb-false, lt-ltb, le-ltb, leb-true, ne_eqb}
use lib.Dec.{ltb, leb, eqb}
use Rattle.flit_read.specs.Bytes.{read}
use Rattle.flit_read.specs.Fields.{content, link_bits, run_length, acceptable}
use Rattle.end_state.specs.Ring.{flit_at, ring_place, walk_begun, passed, walk_over, walked, stored}
use Rattle.end_state.specs.declared.End.{End}
use Rattle.end_state.specs.declared.walk.Walk.{Walk}
use Rattle.std.proofs.lemmas.Bool.{cond_both}
use Rattle.end_state.proofs.Tests.{and_l, and_r}

-- a data flit, and a control flit
pub passed_data : (flit : List ℕ) (w : Walk) → 0 < w.left
    → passed flit w ≡ record { left = w.left - 1; run = w.run; border = false; sound = w.sound }
unfolding passed
passed_data flit w h = simp (lt-ltb 0 w.left h)

pub passed_control : (flit : List ℕ) (w : Walk) → w.left ≤ 0
    → passed flit w
    ≡ record {
      left = read run_length (content flit);
      run = read run_length (content flit);
      border = true;
      sound = w.sound && acceptable flit;
    }
unfolding passed
passed_control flit w h = simp (le-ltb 0 w.left h)

-- on a border the data flits to come are those of the unit that begins there, at most 8 of them where the walk is sound
pub record Fair (w : Walk) : Type 0 where
  pub left : w.left ≤ w.run
  pub at_border : w.border ≡ true → w.left ≡ w.run
  pub small : w.sound ≡ true → w.run ≤ 8

fair_passed : (flit : List ℕ) (w : Walk) → Fair w → Fair (passed flit w)
unfolding passed acceptable
fair_passed flit w f =
    cond_both (ltb 0 w.left) _ _ Fair
    (λ t. record { left = omega (arith, f.left, ltb-true 0 w.left t); at_border = λ b. absurd_border b; small = f.small })
    (λ t. record { left = omega arith; at_border = λ b. refl; small = λ s. leb-true (read run_length (content flit)) 8 (and_l (leb (read run_length (content flit)) 8) (eqb (read link_bits (content flit)) 0) (and_r w.sound (acceptable flit) s)) })
  where
    absurd_border : false ≡ true → w.left - 1 ≡ w.run
    absurd_border b = let z : ◌≡◌ {A = ℕ} 0 1 = cc in omega arith

pub fair : (e : End) (store : List ℕ) (n : ℕ) → e.kept.0 ≤ 8 → Fair (walked e store n)
unfolding walk_over walk_begun
fair e store zero h = record { left = omega arith; at_border = λ b. refl; small = λ s. h }
fair e store (suc n) h = fair_passed (stored e store n) (walked e store n) (fair e store n h)

-- a walk that is sound was sound before
sound_passed : (flit : List ℕ) (w : Walk) → (passed flit w).sound ≡ true → w.sound ≡ true
unfolding passed
sound_passed flit w = go (ltb 0 w.left)
  where
    go : (b : Bool)
        → (cond {A = Walk} b (record { left = w.left - 1; run = w.run; border = false; sound = w.sound })
        (record {
          left = read run_length (content flit);
          run = read run_length (content flit);
          border = true;
          sound = w.sound && acceptable flit;
        })).sound ≡ true
        → w.sound ≡ true
    go true h = h
    go false h = and_l w.sound (acceptable flit) h

pub sound_before : (e : End) (store : List ℕ) (m k : ℕ) → (walked e store (m + k)).sound ≡ true → (walked e store m).sound ≡ true
unfolding walk_over
sound_before e store m zero h = subst (λ (n : ℕ). (walked e store n).sound ≡ true) (add-zero m) h
sound_before e store m (suc k) h =
    sound_before e store m k
    (sound_passed (stored e store (m + k)) (walked e store (m + k))
    (subst (λ (n : ℕ). (walked e store n).sound ≡ true) (add-suc m k) h))

-- past j data flits of the unit that begins at the border k
pub record Inside (w : Walk) (u : Walk) (j : ℕ) : Type 0 where
  pub left : u.left ≡ w.run - j
  pub run : u.run ≡ w.run
  pub border : 0 < j → u.border ≡ false
  pub sound : u.sound ≡ w.sound

module _ (e : End) (store : List ℕ) (small : e.kept.0 ≤ 8) (k : ℕ) (border : (walked e store k).border ≡ true) where
  pub inside : (j : ℕ) → j ≤ (walked e store k).run → Inside (walked e store k) (walked e store (k + j)) j
  unfolding walk_over
  inside zero h =
      subst (λ (n : ℕ). Inside (walked e store k) (walked e store n) 0) (sym (add-zero k))
      (record { left = omega (arith, (fair e store k small).at_border border); run = refl; border = λ z. absurd (omega arith); sound = refl })
  inside (suc j) h =
      let i = inside j (omega arith) in
      let p = passed_data (stored e store (k + j)) (walked e store (k + j)) (omega (arith, i.left)) in
      subst (λ (n : ℕ). Inside (walked e store k) (walked e store n) (suc j)) (sym (add-suc k j))
      (record {
        left = ap (λ (w : Walk). w.left) p ∙ omega (arith, i.left);
        run = ap (λ (w : Walk). w.run) p ∙ i.run;
        border = λ z. ap (λ (w : Walk). w.border) p;
        sound = ap (λ (w : Walk). w.sound) p ∙ i.sound;
      })

  -- the control flit of the unit that begins at the border k
  abbrev pub closing : List ℕ
  closing = stored e store (k + (walked e store k).run)

  -- past it stands the next border
  pub next_border : walked e store (suc (k + (walked e store k).run))
      ≡ record {
        left = read run_length (content closing);
        run = read run_length (content closing);
        border = true;
        sound = (walked e store k).sound && acceptable closing;
      }
  unfolding walk_over
  next_border =
      let i = inside (walked e store k).run (omega arith) in
      passed_control closing (walked e store (k + (walked e store k).run)) (omega (arith, i.left))
      ∙ ap
      (λ (s : Bool). ended s) i.sound
    where
      ended : Bool → Walk
      ended s =
          record {
            left = read run_length (content closing);
            run = read run_length (content closing);
            border = true;
            sound = s && acceptable closing;
          }

  -- between two borders lie whole units
  pub whole : (n : ℕ) → k < n → (walked e store n).border ≡ true → k + (walked e store k).run < n
  whole n h b = go (ltb (k + (walked e store k).run) n) refl
    where
      go : (t : Bool) → ltb (k + (walked e store k).run) n ≡ t → k + (walked e store k).run < n
      go true t = ltb-true (k + (walked e store k).run) n t
      go false t =
          let f = ltb-false (k + (walked e store k).run) n t in
          let i = inside (n - k) (omega arith) in
          let m : k + (n - k) ≡ n = omega arith in
          let x : (walked e store n).border ≡ false = subst (λ (z : ℕ). (walked e store z).border ≡ false) m (i.border (omega arith)) in
          let z : ◌≡◌ {A = ℕ} 0 1 = cc in
          absurd (omega arith)

-- the walk by the code's steps: one flit more, and some of the data flits before the next control flit
pub walk_step : (places first : ℕ) (w : Walk) (store : List ℕ) (n : ℕ)
    → walk_over places first w store (n + 1) ≡ passed (flit_at store (ring_place places first n)) (walk_over places first w store n)
unfolding walk_over
walk_step places first w store n = rw add-one

-- a walk is its four parts
same : (u v : Walk) → u.left ≡ v.left → u.run ≡ v.run → u.border ≡ v.border → u.sound ≡ v.sound → u ≡ v
same u v l r b s =
    ap (λ (x : ℕ). made x u.run u.border u.sound) l ∙ ap (λ (x : ℕ). made v.left x u.border u.sound) r
    ∙ ap (λ (x : Bool). made v.left v.run x u.sound) b
    ∙ ap (λ (x : Bool). made v.left v.run v.border x) s
  where
    made : ℕ → ℕ → Bool → Bool → Walk
    made l r b s = record { left = l; run = r; border = b; sound = s }

both_true : (b : Bool) → b ≡ (b && true)
both_true true = refl
both_true false = refl

both_false : (b : Bool) → false ≡ (b && false)
both_false true = refl
both_false false = refl

pub walk_data : (places first : ℕ) (w : Walk) (store : List ℕ) (k j : ℕ) → j ≤ (walk_over places first w store k).left
    → walk_over places first w store (k + j)
    ≡ record {
      left = (walk_over places first w store k).left - j;
      run = (walk_over places first w store k).run;
      border = (walk_over places first w store k).border && eqb j 0;
      sound = (walk_over places first w store k).sound;
    }
unfolding walk_over
walk_data places first w store k zero h =
    ap (walk_over places first w store) (add-zero k) ∙ same (walk_over places first w store k) _ (omega arith) refl (both_true (walk_over places first w store k).border) refl
walk_data places first w store k (suc j) h =
    let i = walk_data places first w store k j (omega arith) in
    let l = ap (λ (u : Walk). u.left) i in
    let p = passed_data (flit_at store (ring_place places first (k + j))) (walk_over places first w store (k + j)) (omega (arith, l)) in
    ap (walk_over places first w store) (add-suc k j) ∙ p
    ∙ same _ _ (omega (arith, l)) (ap (λ (u : Walk). u.run) i)
    (both_false (walk_over places first w store k).border ∙ sym (ap (λ (b : Bool). (walk_over places first w store k).border && b) (ne_eqb (suc j) 0 (λ z. absurd (omega arith))))) (ap (λ (u : Walk). u.sound) i)
