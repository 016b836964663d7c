-- What `judged` says of an end, and of a table of refusals that begins with its two.
use mathlib.Core.Bool.{Bool, true, false, not, cond}
use mathlib.Core.List.{List}
use mathlib.Core.Path.{◌≡◌, refl, ap, sym, ◌∙◌}
use Prim.Native.Nat.{ℕ}
use native.Mathlib.Omega.{arith}
use lib.ListN.{length}
use Rattle.std.specs.Prelude.{Result, Ok, Err}
use Rattle.end_state.specs.Refusals.{store_is, sound, previous_run, last_run}
use Rattle.end_state.specs.declared.End.{End}
use Rattle.end_state.specs.declared.Refusal.{Refusal}
use Rattle.end_state.specs.declared.Refusal.TheVariants as refusal
use Rattle.end_judge.specs.Judge.{judged}
use Rattle.end_judge.specs.declared.Runs.{Runs}

-- a table of refusals that begins with these two
abbrev pub table : {A : Type 0} → Bool → Bool → Result A Refusal → Result A Refusal
table its_store is_sound rest = cond (not its_store) (Err refusal.Store) (cond (not is_sound) (Err refusal.State) rest)

refusal_or : {A : Type 0} → Refusal → Result A Refusal → Refusal
refusal_or r (Ok a) = r
refusal_or r (Err s) = s

pub not_ok : {A : Type 0} (a : A) (r : Refusal) → Ok a ≡ Err r → ⊥
not_ok a r h = let z : ◌≡◌ {A = ℕ} 0 1 = cc in absurd (omega arith)

refused_by : {A B : Type 0} (b s : Bool) (x : A) (rest : Result B Refusal) (r : Refusal) → table b s (Ok x) ≡ Err r → table b s rest ≡ Err r
unfolding refusal_or
refused_by false s x rest r h = ap Err (ap (refusal_or refusal.Store) h)
refused_by true false x rest r h = ap Err (ap (refusal_or refusal.State) h)
refused_by true true x rest r h = absurd (not_ok x r h)

-- where the two refuse, what stands after them does not count
pub refused : {A : Type 0} (e : End) (store : List ℕ) (r : Refusal) (rest : Result A Refusal) → judged e store ≡ Err r
    → table (store_is e (length store)) (sound e store) rest ≡ Err r
unfolding judged
refused e store r rest h = refused_by (store_is e (length store)) (sound e store) _ rest r h

-- the two tests, where they do not refuse
pub record Judged (e : End) (store : List ℕ) (runs : Runs) : Type 0 where
  pub its_store : store_is e (length store) ≡ true
  pub is_sound : sound e store ≡ true
  pub previous : runs.previous.0 ≡ previous_run e store
  pub last : runs.last.0 ≡ last_run e store

ok_or : {A : Type 0} → A → Result A Refusal → A
ok_or a (Ok b) = b
ok_or a (Err s) = a

by_tests : (e : End) (store : List ℕ) (b s : Bool) (runs runs' : Runs) → store_is e (length store) ≡ b → sound e store ≡ s
    → runs'.previous.0 ≡ previous_run e store
    → runs'.last.0 ≡ last_run e store
    → table b s (Ok runs') ≡ Ok runs
    → Judged e store runs
unfolding ok_or
by_tests e store false s runs runs' p q u v h = absurd (not_ok runs refusal.Store (sym h))
by_tests e store true false runs runs' p q u v h = absurd (not_ok runs refusal.State (sym h))
by_tests e store true true runs runs' p q u v h =
    let k : runs' ≡ runs = ap (ok_or runs) h in
    record { its_store = p; is_sound = q; previous = sym (ap (λ (r : Runs). r.previous.0) k) ∙ u; last = sym (ap (λ (r : Runs). r.last.0) k) ∙ v }

pub judged_ok : (e : End) (store : List ℕ) (runs : Runs) → judged e store ≡ Ok runs → Judged e store runs
unfolding judged
judged_ok e store runs h = by_tests e store (store_is e (length store)) (sound e store) runs _ refl refl refl refl h

-- where each of the two refuses
pub at_store : {A : Type 0} (b s : Bool) (rest : Result A Refusal) → b ≡ false → table b s rest ≡ Err refusal.Store
at_store b s rest h = ap (λ (t : Bool). table t s rest) h

pub at_state : {A : Type 0} (b s : Bool) (rest : Result A Refusal) → b ≡ true → s ≡ false → table b s rest ≡ Err refusal.State
at_state b s rest h k = ap (λ (t : Bool). table t s rest) h ∙ ap (λ (t : Bool). table true t rest) k

pub past_by : {A : Type 0} (b s : Bool) (rest : Result A Refusal) → b ≡ true → s ≡ true → table b s rest ≡ rest
past_by b s rest p q = ap (λ (t : Bool). table t s rest) p ∙ ap (λ (t : Bool). table true t rest) q

-- where the two do not refuse, only what stands after them counts
pub passed : {A : Type 0} (e : End) (store : List ℕ) (runs : Runs) (rest : Result A Refusal) → Judged e store runs
    → table (store_is e (length store)) (sound e store) rest ≡ rest
passed e store runs rest j = past_by (store_is e (length store)) (sound e store) rest j.its_store j.is_sound
