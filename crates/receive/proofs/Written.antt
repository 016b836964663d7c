-- Only a held flit and a delivery write hold, and each only the 64 bytes past the data flits already there: the bytes of hold stay as
-- many, and the flit at every other place stays.
use mathlib.Core.Bool.{Bool, true, false}
use mathlib.Core.List.{List}
use mathlib.Core.Path.{◌≡◌, refl}
use Prim.Native.Nat.{ℕ, ◌%◌, ◌^◌, ◌≤◌}
use native.Mathlib.Omega.{arith}
use lib.ListN.{length, take, length-append}
use lib.Seq.{length-take-le}
use Rattle.std.specs.Prelude.{Result, Ok, Err}
use Rattle.flit_number.specs.declared.FlitCount.{FlitCount}
use Rattle.flit_read.specs.Bytes.{bytes}
use Rattle.flit_read.specs.Fields.{content}
use Rattle.flit_write.specs.Flits.{bare_control}
use Rattle.flit_read.proofs.Laws.{length_bytes}
use Rattle.end_state.specs.Ring.{flit_at, put_at}
use Rattle.end_state.specs.declared.End.{End}
use Rattle.end_state.specs.declared.Refusal.{Refusal}
use Rattle.end_state.proofs.Places.{put_length, flit_put_same, flit_put_other}
use Rattle.receive_answer.specs.declared.Answer.{Answer}
use Rattle.receive_answer.specs.declared.Answer.TheVariants as answer
use Rattle.receive.specs.Receive.{receive_verdict, hold_after, answer_to, receive_hold}
use Rattle.receive.proofs.Admission.{admission}
use Rattle.receive.proofs.Unchanged.{refused_changes_nothing}

-- the answers that write hold
abbrev pub writes : Answer → Bool
writes answer.Held = true
writes (answer.Delivered n) = true
writes _ = false

quiet_keeps : (a : Answer) (e : End) (hold flit : List ℕ) → writes a ≡ false → hold_after a e hold flit ≡ hold
unfolding hold_after
quiet_keeps answer.Held e hold flit h = cc
quiet_keeps (answer.Delivered n) e hold flit h = cc
quiet_keeps _ e hold flit h = refl

pub only_held_and_delivered_write : (e : End) (store hold flit : List ℕ) → writes (answer_to e store hold flit) ≡ false
    → receive_hold e store hold flit ≡ hold
unfolding receive_hold
only_held_and_delivered_write e store hold flit h = quiet_keeps (answer_to e store hold flit) e hold flit h

-- a control flit as it is handed on has 64 bytes
pub bare_length : (flit : List ℕ) → length flit ≡ 64 → length (bare_control flit) ≡ 64
unfolding bare_control
bare_length flit h =
    let c = content flit % 2 ^ 18 in
    omega (arith, length-append (take 56 flit) (bytes 8 c), length-take-le 56 flit (omega arith), length_bytes 8 c)

-- what is written lies at one place
pub record Beside (hold after : List ℕ) (at : ℕ) : Type 0 where
  pub size : length after ≡ length hold
  pub others : (p : ℕ) → (p ≡ at → ⊥) → flit_at after p ≡ flit_at hold p

same_beside : (hold : List ℕ) (at : ℕ) → Beside hold hold at
same_beside hold at = record { size = refl; others = λ p d. refl }

module _ (e : End) (hold flit : List ℕ) (fits : length hold ≡ 576) (few : e.gathered.0 ≤ 8) (whole : length flit ≡ 64) where
  put_beside : (unit : List ℕ) → length unit ≡ 64 → Beside hold (put_at hold e.gathered.0 unit) e.gathered.0
  put_beside unit h =
      record {
        size = put_length hold unit e.gathered.0 (omega arith) h;
        others = flit_put_other hold unit e.gathered.0 (omega arith) h;
      }

  after_beside : (a : Answer) → Beside hold (hold_after a e hold flit) e.gathered.0
  unfolding hold_after
  after_beside answer.Held = put_beside flit whole
  after_beside (answer.Delivered n) = put_beside (bare_control flit) (bare_length flit whole)
  after_beside _ = same_beside hold e.gathered.0

module _ (e : End) (store hold flit : List ℕ) where
  -- whatever receive answers
  pub written_beside : Beside hold (receive_hold e store hold flit) e.gathered.0
  unfolding receive_hold
  written_beside = go (receive_verdict e store (length hold) (length flit)) refl
    where
      go : (v : Result (Unit {0}) Refusal) → receive_verdict e store (length hold) (length flit) ≡ v → Beside hold (receive_hold e store hold flit) e.gathered.0
      go (Err r) t = rw (refused_changes_nothing e store hold flit r t).1 (same_beside hold e.gathered.0)
      go (Ok u) t =
          let m = admission e store (length hold) (length flit) t in
          after_beside e hold flit m.hold_fits (omega (arith, m.counts.gathered, m.counts.owed)) m.flit_fits (answer_to e store hold flit)

  -- and at that place stands the held flit, or the delivered unit's control flit
  pub held_written : receive_verdict e store (length hold) (length flit) ≡ Ok tt → answer_to e store hold flit ≡ answer.Held
      → flit_at (receive_hold e store hold flit) e.gathered.0 ≡ flit
  unfolding receive_hold hold_after
  held_written t h =
      let m = admission e store (length hold) (length flit) t in
      rw h (flit_put_same hold flit e.gathered.0 (omega (arith, m.hold_fits, m.counts.gathered, m.counts.owed)) m.flit_fits)

  pub delivered_written : (n : FlitCount) → receive_verdict e store (length hold) (length flit) ≡ Ok tt
      → answer_to e store hold flit ≡ answer.Delivered n
      → flit_at (receive_hold e store hold flit) e.gathered.0 ≡ bare_control flit
  unfolding receive_hold hold_after
  delivered_written n t h =
      let m = admission e store (length hold) (length flit) t in
      rw h
      (flit_put_same hold (bare_control flit) e.gathered.0 (omega (arith, m.hold_fits, m.counts.gathered, m.counts.owed))
      (bare_length flit m.flit_fits))
