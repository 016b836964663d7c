-- What an answer says of the tests that led to it: where an acknowledgement counts it is not past sent, and a delivery does not bring
-- untold over 1,024. And what its cause is.
use mathlib.Core.Bool.{Bool, true, false, ◌&&◌, not}
use mathlib.Core.Path.{◌≡◌}
use Prim.Native.Nat.{ℕ, ◌+◌, ◌≤◌}
use borrow.Author.Tests.{ltb-false}
use lib.Dec.{ltb, eqb}
use Rattle.flit_read.specs.Fields.{replay_kind, idle_kind}
use Rattle.flit_read.specs.declared.Fields.{Fields}
use Rattle.end_state.specs.State.{is_run}
use Rattle.end_state.specs.declared.End.{End}
use Rattle.end_state.specs.declared.Mode.{Mode}
use Rattle.end_state.specs.declared.Mode.TheVariants.{Run, Wait, Down}
use Rattle.end_state.specs.declared.Refusal.TheVariants as refusal
use Rattle.std.proofs.lemmas.Bool.{cond-true, cond_both}
use Rattle.receive_test.specs.Arrivals.{holds, damaged, skips, newly_covered, past_sent, behind}
use Rattle.receive_answer.specs.Answers.{half, replay_answer, plain_answer, run_answer, wait_answer, mode_answer}
use Rattle.receive_answer.specs.declared.Cause.{Cause}
use Rattle.receive_answer.specs.declared.Cause.TheVariants as cause
use Rattle.receive_answer.specs.declared.Answer.{Answer}
use Rattle.receive_answer.specs.declared.Answer.TheVariants as answer

pub record Nothing : Type 0 where

pub record Counts (e : End) (n : ℕ) : Type 0 where
  pub within : past_sent e n ≡ false

pub record Delivers (e : End) (n : ℕ) : Type 0 where
  pub within : past_sent e n ≡ false
  pub room : e.untold.0 + (e.gathered.0 + 1) ≤ 1024

abbrev pub Fits : Answer → End → Fields → Type 0
Fits (answer.Delivered n) e f = Delivers e f.acks.0
Fits answer.Duplicate e f = Counts e f.acks.0
Fits answer.Idle e f = Counts e f.acks.0
Fits answer.Replayed e f = Counts e (newly_covered e f.last.0)
Fits answer.Ahead e f = Counts e (newly_covered e f.last.0)
Fits _ e f = Nothing

-- an answer of which the cause, where it has one, is one of document 01's four: `Other` is for a state's number
abbrev pub Named : Answer → Type 0
Named (answer.Down (cause.Other n)) = ⊥
Named _ = Nothing

-- what holds of each answer to a replay flit, where its tests led there, holds of the answer; and to another flit
pub replay_by_named : (P : Answer → Type 0) (e : End) (f : Fields) → ((n : Cause) → Named (answer.Down n) → P (answer.Down n))
    → (ltb 8 f.previous.0 ≡ false → past_sent e (newly_covered e f.last.0) ≡ false → P answer.Replayed × P answer.Ahead)
    → P (replay_answer e f)
unfolding replay_answer
replay_by_named P e f down taken =
    cond_both f.short _ _ P (λ t. down _ (record {}))
    (λ t.
    cond_both (ltb 8 f.previous.0) _ _ P (λ u. down _ (record {}))
    (λ u.
    cond_both (past_sent e (newly_covered e f.last.0)) _ _ P (λ v. down _ (record {}))
    (λ v. cond_both (ltb (behind e f.start.0) half) _ _ P (λ w. (taken u v).0) (λ w. (taken u v).1))))

pub plain_by_named : (P : Answer → Type 0) (e : End) (f : Fields) → ((n : Cause) → Named (answer.Down n) → P (answer.Down n))
    → (past_sent e f.acks.0 ≡ false → eqb f.run.0 idle_kind ≡ true → P answer.Idle)
    → (past_sent e f.acks.0 ≡ false → eqb f.run.0 idle_kind ≡ false → P answer.Duplicate)
    → (past_sent e f.acks.0 ≡ false
    → eqb f.run.0 idle_kind ≡ false
    → ltb 1024 (e.untold.0 + (e.gathered.0 + 1)) ≡ false
    → P (answer.Delivered e.gathered))
    → P (plain_answer e f)
unfolding plain_answer
plain_by_named P e f down idles again delivers =
    cond_both f.short _ _ P (λ t. down _ (record {}))
    (λ t.
    cond_both (past_sent e f.acks.0) _ _ P (λ u. down _ (record {}))
    (λ u.
    cond_both (eqb f.run.0 idle_kind) _ _ P (λ v. idles u v)
    (λ v.
    cond_both (not (eqb e.position.0 e.wanted.0)) _ _ P (λ w. again u v)
    (λ w. cond_both (ltb 1024 (e.untold.0 + (e.gathered.0 + 1))) _ _ P (λ x. down _ (record {})) (λ x. delivers u v x)))))

-- the same, of every cause
pub replay_by : (P : Answer → Type 0) (e : End) (f : Fields) → ((n : Cause) → P (answer.Down n))
    → (ltb 8 f.previous.0 ≡ false → past_sent e (newly_covered e f.last.0) ≡ false → P answer.Replayed × P answer.Ahead)
    → P (replay_answer e f)
replay_by P e f down taken = replay_by_named P e f (λ n _. down n) taken

pub plain_by : (P : Answer → Type 0) (e : End) (f : Fields) → ((n : Cause) → P (answer.Down n))
    → (past_sent e f.acks.0 ≡ false → eqb f.run.0 idle_kind ≡ true → P answer.Idle)
    → (past_sent e f.acks.0 ≡ false → eqb f.run.0 idle_kind ≡ false → P answer.Duplicate)
    → (past_sent e f.acks.0 ≡ false
    → eqb f.run.0 idle_kind ≡ false
    → ltb 1024 (e.untold.0 + (e.gathered.0 + 1)) ≡ false
    → P (answer.Delivered e.gathered))
    → P (plain_answer e f)
plain_by P e f down idles again delivers = plain_by_named P e f (λ n _. down n) idles again delivers

replay_fits : (e : End) (f : Fields) → Fits (replay_answer e f) e f
replay_fits e f = replay_by (λ a. Fits a e f) e f (λ n. record {}) (λ u v. (record { within = v }, record { within = v }))

plain_fits : (e : End) (f : Fields) → Fits (plain_answer e f) e f
plain_fits e f =
    plain_by (λ a. Fits a e f) e f (λ n. record {}) (λ u v. record { within = u }) (λ u v. record { within = u })
    (λ u v x. record { within = u; room = ltb-false 1024 (e.untold.0 + (e.gathered.0 + 1)) x })

-- what holds of each answer holds of the answer
mode_by : (P : Answer → Type 0) (m : Mode) (e : End) (f : Fields) (b : Bool) → P answer.Held → P answer.Damaged → P answer.Skipped
    → P answer.Discarded → P (answer.Refused refusal.Down) → P (replay_answer e f) → P (plain_answer e f) → P (mode_answer m e f b)
unfolding run_answer wait_answer
mode_by P Run e f b held damage skip discard refuse replay plain =
    cond_both (holds e) _ _ P (λ t. held)
    (λ t.
    cond_both (damaged e f b) _ _ P (λ u. damage)
    (λ u. cond_both (skips f) _ _ P (λ v. skip) (λ v. cond_both (eqb f.run.0 replay_kind) _ _ P (λ w. replay) (λ w. plain))))
mode_by P Wait e f b held damage skip discard refuse replay plain =
    cond_both (b && eqb f.run.0 replay_kind) _ _ P (λ t. replay) (λ t. discard)
mode_by P Down e f b held damage skip discard refuse replay plain = refuse

-- of every answer that is found
pub found : (m : Mode) (e : End) (f : Fields) (b : Bool) → Fits (mode_answer m e f b) e f
found m e f b =
    mode_by (λ a. Fits a e f) m e f b (record {}) (record {}) (record {}) (record {}) (record {}) (replay_fits e f) (plain_fits e f)

-- so `answer_flit` answers no other cause
pub mode_named : (m : Mode) (e : End) (f : Fields) (b : Bool) → Named (mode_answer m e f b)
mode_named m e f b =
    mode_by Named m e f b (record {}) (record {}) (record {}) (record {}) (record {})
    (replay_by_named Named e f (λ n named. named) (λ t u. (record {}, record {})))
    (plain_by_named Named e f (λ n named. named) (λ t u. record {}) (λ t u. record {}) (λ t u v. record {}))

-- where the flit is held, nothing else is looked at
pub held_answer : (m : Mode) (e : End) (f : Fields) (b : Bool) → (is_run m && holds e) ≡ true → mode_answer m e f b ≡ answer.Held
unfolding run_answer
held_answer Run e f b h = cond-true (holds e) answer.Held _ h
held_answer Wait e f b h = let z : false ≡ true = h in cc
held_answer Down e f b h = let z : false ≡ true = h in cc
