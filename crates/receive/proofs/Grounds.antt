-- What an answer says of the receiving side: a held flit was owed, an idle flit meets no data, a control flit's run length and a
-- replay flit's previous run length are at most 8.
use mathlib.Core.Bool.{Bool, true, false, not, ◌&&◌, ◌||◌}
use mathlib.Core.Path.{◌≡◌, refl}
use Prim.Native.Nat.{ℕ, ◌<◌, ◌≤◌}
use native.Mathlib.Omega.{arith}
use borrow.Author.Tests.{ltb-true, ltb-false, leb-false, eqb-true, eqb-false, not-true, lt-ltb, eq-eqb}
use lib.Dec.{ltb, leb, eqb}
use Rattle.flit_read.specs.Fields.{replay_kind, idle_kind}
use Rattle.flit_read.specs.declared.Fields.{Fields}
use Rattle.end_state.specs.declared.End.{End}
use Rattle.end_state.specs.declared.Mode.{Mode}
use Rattle.end_state.specs.declared.Mode.TheVariants.{Run, Wait, Down}
use Rattle.std.proofs.lemmas.Bool.{cond_both, or_parts}
use Rattle.end_state.proofs.Tests.{and_l, and_r}
use Rattle.receive_test.specs.Arrivals.{holds, closes, run_wrong, stall_wrong, straddles, damaged, skips}
use Rattle.receive_answer.specs.Answers.{replay_answer, plain_answer, run_answer, wait_answer, mode_answer}
use Rattle.receive_answer.specs.declared.Answer.{Answer}
use Rattle.receive_answer.specs.declared.Answer.TheVariants as answer
use Rattle.receive_answer.proofs.Found.{Nothing, replay_by, plain_by}
use Rattle.receive.proofs.Sides.{Receives}

pub record Owing (e : End) : Type 0 where
  pub running : e.stalled ≡ false
  pub more : e.gathered.0 < e.owed.0

pub record Control (f : Fields) : Type 0 where
  pub run : f.run.0 ≤ 8

pub record Alone (e : End) : Type 0 where
  pub none : e.gathered.0 ≡ 0

pub record Announced (f : Fields) : Type 0 where
  pub previous : f.previous.0 ≤ 8

abbrev pub Grounds : Answer → End → Fields → Type 0
Grounds answer.Held e f = Owing e
Grounds (answer.Delivered n) e f = Control f
Grounds answer.Duplicate e f = Control f
Grounds answer.Idle e f = Alone e
Grounds answer.Replayed e f = Announced f
Grounds answer.Ahead e f = Announced f
Grounds _ e f = Nothing

-- a run length that is neither skipped nor a replay or idle flit's
control_run : (r : ℕ) → r ≤ 15 → (eqb r 9 || (leb 11 r && leb r 14)) ≡ false → eqb r replay_kind ≡ false → eqb r idle_kind ≡ false → r ≤ 8
control_run r h s p i = go (leb 11 r) refl (leb r 14) refl
  where
    a : (r ≡ 9 → ⊥) × (r ≡ 10 → ⊥) × (r ≡ 15 → ⊥)
    a = (eqb-false r 9 (or_parts (eqb r 9) (leb 11 r && leb r 14) s).0, eqb-false r replay_kind p, eqb-false r idle_kind i)

    small : r < 11 → (r ≡ 9 → ⊥) → (r ≡ 10 → ⊥) → r ≤ 8
    small k x y = omega arith

    large : 14 < r → (r ≡ 15 → ⊥) → r ≤ 8
    large k x = absurd (omega arith)

    go : (x : Bool) → leb 11 r ≡ x → (y : Bool) → leb r 14 ≡ y → r ≤ 8
    go false x y t = small (leb-false 11 r x) a.0 a.1
    go true x false t = large (leb-false r 14 t) a.2
    go true x true t =
        let b = (or_parts (eqb r 9) (leb 11 r && leb r 14) s).1 in
        let z : ◌≡◌ {A = ℕ} 0 1 = cc in
        absurd (omega arith)

-- an idle flit that closes no unit and is not held meets no data
none_held : (stalled : Bool) (g o r : ℕ) → (not stalled || eqb g 0) ≡ true → g ≤ o → (not stalled && ltb g o) ≡ false
    → ((not stalled && ltb 0 o && eqb g o) && ltb 8 r) ≡ false → r ≡ 15 → g ≡ 0
none_held true g o r h l k m n = eqb-true g 0 h
none_held false g o r h l k m n = go (ltb 0 o) refl
  where
    x : o ≤ g
    x = ltb-false g o k

    go : (t : Bool) → ltb 0 o ≡ t → g ≡ 0
    go false t = let y = ltb-false 0 o t in omega (arith, x)
    go true t =
        let y = eq-eqb g o (omega (arith, x)) in
        let w = lt-ltb 8 r (omega arith) in
        let z : ◌≡◌ {A = ℕ} 0 1 = cc in
        absurd (omega arith)

idle_alone : (e : End) (f : Fields) (b : Bool) → Receives e → holds e ≡ false → damaged e f b ≡ false → eqb f.run.0 idle_kind ≡ true
    → e.gathered.0 ≡ 0
unfolding holds closes damaged run_wrong
idle_alone e f b r h d i =
    let u = closes e && ltb 8 f.run.0 in
    let v = e.stalled && ltb f.run.0 9 in
    let x = (or_parts (not b || (u || v)) (stall_wrong e f) (or_parts (not b || (u || v) || stall_wrong e f) (straddles e f) d).0).0 in
    none_held e.stalled e.gathered.0 e.owed.0 f.run.0 r.none_stalled r.gathered_in h (or_parts u v (or_parts (not b) (u || v) x).1).0
    (eqb-true f.run.0 idle_kind i)

owing : (e : End) → holds e ≡ true → Owing e
unfolding holds
owing e h =
    record {
      running = not-true e.stalled (and_l (not e.stalled) (ltb e.gathered.0 e.owed.0) h);
      more = ltb-true e.gathered.0 e.owed.0 (and_r (not e.stalled) (ltb e.gathered.0 e.owed.0) h);
    }

replay_grounds : (e : End) (f : Fields) → Grounds (replay_answer e f) e f
replay_grounds e f =
    replay_by (λ a. Grounds a e f) e f (λ n. record {})
    (λ u v. let a : Announced f = record { previous = ltb-false 8 f.previous.0 u } in (a, a))

plain_grounds : (e : End) (f : Fields) → f.run.0 ≤ 15 → skips f ≡ false → eqb f.run.0 replay_kind ≡ false
    → (eqb f.run.0 idle_kind ≡ true → e.gathered.0 ≡ 0) → Grounds (plain_answer e f) e f
unfolding skips
plain_grounds e f h s p i =
    plain_by (λ a. Grounds a e f) e f (λ n. record {}) (λ u v. record { none = i v }) (λ u v. record { run = control_run f.run.0 h s p v })
    (λ u v x. record { run = control_run f.run.0 h s p v })

-- of every answer that is found
pub grounds : (m : Mode) (e : End) (f : Fields) (b : Bool) → Receives e → f.run.0 ≤ 15 → Grounds (mode_answer m e f b) e f
unfolding run_answer wait_answer
grounds Run e f b r h =
    let P : Answer → Type 0 = λ a. Grounds a e f in
    cond_both (holds e) _ _ P (λ t. owing e t)
    (λ t.
    cond_both (damaged e f b) _ _ P (λ u. record {})
    (λ u.
    cond_both (skips f) _ _ P (λ v. record {})
    (λ v.
    cond_both (eqb f.run.0 replay_kind) _ _ P (λ w. replay_grounds e f) (λ w. plain_grounds e f h v w (idle_alone e f b r t u)))))
grounds Wait e f b r h =
    let P : Answer → Type 0 = λ a. Grounds a e f in
    cond_both (b && eqb f.run.0 replay_kind) _ _ P (λ t. replay_grounds e f) (λ t. record {})
grounds Down e f b r h = record {}
