-- The bytes of a unit: 64 for each of its flits.
use mathlib.Core.List.{List, ◌++◌}
use mathlib.Core.Path.{◌≡◌, refl, ap₂, ◌∙◌}
use Prim.Native.Nat.{ℕ, zero, suc, ◌+◌, ◌*◌, ◌<◌, ◌≤◌}
use native.Mathlib.Omega.{arith}
use lib.Dec.{ltb}
use lib.ListN.{length, length-append}
use Rattle.crc.proofs.Sealing.{length_sealed}
use Rattle.flit_read.specs.Bytes.{read}
use Rattle.flit_read.specs.Fields.{content, run_length}
use Rattle.flit_write.specs.Flits.{control_told}
use Rattle.flit_write.proofs.RoundTrip.{control_told_size}
use Rattle.end_state.specs.Ring.{flit_at, ring_place}
use Rattle.end_state.specs.Refusals.{cursor_at}
use Rattle.end_state.specs.declared.End.{End}
use Rattle.end_state.proofs.Places.{place_under, flit_length}
use Rattle.send_unit.specs.Units.{stored_flits, control_at_cursor, unit_sent}

-- the stored flits of a unit
module _ (places first : ℕ) (store : List ℕ) (inside : first < places) (size : length store ≡ places * 64) where
  pub length_at : (n : ℕ) → n ≤ places → length (flit_at store (ring_place places first n)) ≡ 64
  length_at n l = let p = place_under places first n inside l in flit_length store (ring_place places first n) (omega arith)

  pub length_stored : (from n : ℕ) → from + n ≤ places → length (stored_flits places first store from n) ≡ n * 64
  unfolding stored_flits
  length_stored from zero l = refl
  length_stored from (suc n) l =
      let z : n * 64 + 64 ≡ suc n * 64 = omega arith in
      length-append (stored_flits places first store from n) (flit_at store (ring_place places first (from + n)))
      ∙ ap₂ (λ (i j : ℕ). i + j) (length_stored from n (omega arith)) (length_at (from + n) (omega arith)) ∙ z

-- the control flit of the unit at the cursor, but for its check
abbrev pub control_sent : End → List ℕ → ℕ → ℕ → List ℕ
control_sent e store run acks =
    control_told (control_at_cursor e store run) acks (ltb 0 (read run_length (content (control_at_cursor e store run))))

pub length_unsealed : (e : End) (store : List ℕ) (run acks : ℕ) → e.first < e.capacity.0 → length store ≡ e.capacity.0 * 64
    → cursor_at e + run < e.capacity.0
    → length (stored_flits e.capacity.0 e.first store (cursor_at e) run ++ control_sent e store run acks) ≡ run * 64 + 64
length_unsealed e store run acks h k l =
    length-append (stored_flits e.capacity.0 e.first store (cursor_at e) run) (control_sent e store run acks)
    ∙ ap₂ (λ (i j : ℕ). i + j) (length_stored e.capacity.0 e.first store h k (cursor_at e) run (omega arith))
    (control_told_size (control_at_cursor e store run) acks _ (length_at e.capacity.0 e.first store h k (cursor_at e + run) (omega arith)))

pub length_unit : (e : End) (store : List ℕ) (run acks : ℕ) → e.first < e.capacity.0 → length store ≡ e.capacity.0 * 64
    → cursor_at e + run < e.capacity.0 → length (unit_sent e store run acks) ≡ run * 64 + 64
unfolding unit_sent
length_unit e store run acks h k l = length_sealed _ ∙ length_unsealed e store run acks h k l
