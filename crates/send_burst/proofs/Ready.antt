-- What soundness says where the burst is written: the run length before the cursor is at most 8, and the unit at the cursor is held whole.
use mathlib.Core.Bool.{true}
use mathlib.Core.List.{List}
use mathlib.Core.Path.{◌≡◌, subst}
use Prim.Native.Nat.{ℕ, ◌+◌, ◌-◌, ◌<◌, ◌≤◌}
use native.Mathlib.Omega.{arith}
use Rattle.end_state.specs.Ring.{walked}
use Rattle.end_state.specs.Refusals.{cursor_at, sound, previous_run}
use Rattle.end_state.specs.declared.End.{End}
use Rattle.end_state.proofs.Facts.{sound_is}
use Rattle.end_state.proofs.Walks.{fair, sound_before, whole}

module _ (e : End) (store : List ℕ) (ok : sound e store ≡ true) where
  pub run_small : previous_run e store ≤ 8
  run_small =
      let s = sound_is e store ok in
      let n : e.held.0 ≡ cursor_at e + (e.held.0 - cursor_at e) = omega (arith, s.numbers.cursor) in
      (fair e store (cursor_at e) s.counts.kept).small
      (sound_before e store (cursor_at e) (e.held.0 - cursor_at e)
      (subst (λ (m : ℕ). (walked e store m).sound ≡ true) n s.units.acceptable))

  pub unit_whole : cursor_at e < e.held.0 → cursor_at e + previous_run e store < e.held.0
  unit_whole h =
      let s = sound_is e store ok in
      whole e store s.counts.kept (cursor_at e) s.units.cursor e.held.0 h s.units.border

pub record Ready (e : End) (run : ℕ) : Type 0 where
  pub small : run ≤ 8
  pub inside : cursor_at e < e.held.0 → cursor_at e + run < e.capacity.0

pub ready : (e : End) (store : List ℕ) (run : ℕ) → sound e store ≡ true → run ≡ previous_run e store → Ready e run
ready e store run ok r =
    let s = sound_is e store ok in
    let m = run_small e store ok in
    record { small = omega arith; inside = λ w. let u = unit_whole e store ok w in omega (arith, s.counts.held) }
