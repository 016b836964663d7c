-- How long a burst is: 64 bytes for each flit that send says it wrote, and at most ten flits, so that 640 bytes are enough.
use mathlib.Core.Bool.{Bool, true, false}
use mathlib.Core.List.{List}
use mathlib.Core.Path.{◌≡◌, refl, sym, ap, ◌∙◌}
use Prim.Native.Nat.{ℕ, ◌+◌, ◌*◌, ◌≤◌}
use native.Mathlib.Omega.{arith}
use borrow.Author.Tests.{ltb-true, ltb-false}
use lib.Dec.{ltb}
use lib.ListN.{length, length-append}
use Rattle.flit_write.specs.Flits.{idle_flit}
use Rattle.end_state.specs.Refusals.{cursor_at, store_is, sound, previous_run}
use Rattle.end_state.specs.declared.End.{End}
use Rattle.end_state.proofs.Facts.{stored_is, sound_is}
use Rattle.send_unit.specs.Units.{unit_sent}
use Rattle.send_state.specs.Moves.{carried, fallen}
use Rattle.send_burst.specs.Burst.{burst, burst_flits}
use Rattle.send_unit.proofs.Lengths.{length_unit}
use Rattle.send_replay.proofs.Lengths.{length_idle, length_replays}
use Rattle.send_burst.proofs.Cases.{Burst, burst_replays, burst_idle, burst_data, burst_control}
use Rattle.send_burst.proofs.Ready.{Ready, ready}

-- the bytes of so many flits, at most ten
pub record Sized (bs : List ℕ) (flits : ℕ) : Type 0 where
  pub bytes : length bs ≡ flits * 64
  pub few : flits ≤ 10

module _ (e : End) (store : List ℕ) (run errors information : ℕ)
    (its : store_is e (length store) ≡ true) (ok : sound e store ≡ true) (y : Ready e run)
  where
    sized : (flits : List ℕ) (n : ℕ) → Burst e store run errors information flits n → length flits ≡ n * 64 → n ≤ 10
        → Sized (burst e store run errors information) (burst_flits e run)
    sized flits n b l h = record { bytes = ap length b.is ∙ l ∙ ap (λ (m : ℕ). m * 64) (sym b.counted); few = omega (arith, b.counted) }

    by_case : (p w d : Bool) → e.pending ≡ p → ltb (cursor_at e) e.held.0 ≡ w → ltb 0 run ≡ d
        → Sized (burst e store run errors information) (burst_flits e run)
    by_case true w d p v t = sized _ 2 (burst_replays e store run errors information p) (length_replays e run errors information) (omega arith)
    by_case false false d p v t =
        sized _ 1 (burst_idle e store run errors information p (ltb-false (cursor_at e) e.held.0 v)) (length_idle (carried e.untold.0) (ltb 0 run) run) (omega arith)
    by_case false true true p v t =
        let w = ltb-true (cursor_at e) e.held.0 v in
        let i = length_idle (carried e.untold.0) false run in
        let u = length_unit e store run (carried (fallen e.untold.0)) (sound_is e store ok).counts.first (stored_is e (length store) its).whole (y.inside w) in
        sized _ (run + 2) (burst_data e store run errors information p w (ltb-true 0 run t))
        (omega (arith, i, u, length-append (idle_flit (carried e.untold.0) false run) (unit_sent e store run (carried (fallen e.untold.0)))))
        (omega (arith, y.small))
    by_case false true false p v t =
        let w = ltb-true (cursor_at e) e.held.0 v in
        let d = ltb-false 0 run t in
        let u = length_unit e store run (carried e.untold.0) (sound_is e store ok).counts.first (stored_is e (length store) its).whole (y.inside w) in
        sized _ 1 (burst_control e store run errors information p w d) (omega (arith, u, d)) (omega arith)

pub burst_length : (e : End) (store : List ℕ) (errors information : ℕ) → store_is e (length store) ≡ true → sound e store ≡ true
    → Sized (burst e store (previous_run e store) errors information) (burst_flits e (previous_run e store))
burst_length e store errors information h ok =
    let run = previous_run e store in
    by_case e store run errors information h ok (ready e store run ok refl) e.pending (ltb (cursor_at e) e.held.0) (ltb 0 run) refl refl refl

-- the shortest output that send takes holds it
pub burst_fits : (e : End) (store : List ℕ) (errors information : ℕ) → store_is e (length store) ≡ true → sound e store ≡ true
    → length (burst e store (previous_run e store) errors information) ≤ 640
burst_fits e store errors information h ok = let s = burst_length e store errors information h ok in omega arith
