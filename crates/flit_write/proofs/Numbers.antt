-- A replay flit's bytes 44 to 63 are four numbers, one after the other: the link information, the acknowledge number, the starting number
-- and the DL content. Each fits its bytes, so that the number of all twenty is the sum of their fields.
use mathlib.Core.Path.{◌≡◌, ap, ◌∙◌}
use mathlib.Core.List.{List, ◌++◌}
use Prim.Native.Nat.{ℕ, ◌+◌, ◌*◌, ◌^◌, ◌<◌}
use native.Mathlib.Omega.{arith}
use lib.ListN.{replicate}
use Rattle.crc.specs.Seal.{sealed}
use Rattle.flit_write.specs.declared.Replay.{Replay}
use Rattle.flit_read.specs.Bytes.{bit, bytes, mark}
use Rattle.flit_read.specs.Fields.{data_stalled, replay_data_stalled, nack}
use Rattle.flit_write.specs.Flits.{replay_flit}
use Rattle.flit_read.proofs.Laws.{bytes_join}
use Rattle.flit_write.proofs.Written.{mark_replay}

-- the DL content but for its check
abbrev pub replay_told : Replay → ℕ
replay_told r = 10 + 16 * r.previous.0 + 256 * r.errors + mark data_stalled r.stalled + mark (bit 20) r.nack

four : (i a s x : ℕ) → i < 2 ^ 64 → a < 2 ^ 16 → s < 2 ^ 16
    → bytes 20 (i + 2 ^ 64 * (a + 2 ^ 16 * (s + 2 ^ 16 * x))) ≡ bytes 8 i ++ (bytes 2 a ++ (bytes 2 s ++ bytes 8 x))
four i a s x hi ha hs =
    bytes_join 8 12 i (a + 2 ^ 16 * (s + 2 ^ 16 * x)) hi
    ∙ ap (λ (t : List ℕ). bytes 8 i ++ t)
    (bytes_join 2 10 a (s + 2 ^ 16 * x) ha ∙ ap (λ (t : List ℕ). bytes 2 a ++ t) (bytes_join 2 8 s x hs))

summed : (i a s p e d n d₉₆ n₉₆ : ℕ) → d₉₆ ≡ 2 ^ 96 * d → n₉₆ ≡ 2 ^ 96 * n
    → i * 2 ^ 0 + a * 2 ^ 64 + s * 2 ^ 80 + 10 * 2 ^ 96 + p * 2 ^ 100 + e * 2 ^ 104 + d₉₆ + n₉₆
    ≡ i + 2 ^ 64 * (a + 2 ^ 16 * (s + 2 ^ 16 * (10 + 16 * p + 256 * e + d + n)))
summed i a s p e d n d₉₆ n₉₆ h k = omega arith

pub replay_parts : (r : Replay) → r.information < 2 ^ 64 → r.last.0 < 2 ^ 16 → r.start.0 < 2 ^ 16
    → replay_flit r
    ≡ sealed
    (replicate 44 0
    ++ (bytes 8 r.information ++ (bytes 2 r.last.0 ++ (bytes 2 r.start.0 ++ bytes 8 (replay_told r)))))
unfolding replay_flit
replay_parts r hi ha hs =
    ap (λ (t : List ℕ). sealed (replicate 44 0 ++ t))
    (ap (bytes 20)
    (summed r.information r.last.0 r.start.0 r.previous.0 r.errors
    (mark data_stalled r.stalled) (mark (bit 20) r.nack) (mark replay_data_stalled r.stalled) (mark nack r.nack)
    (mark_replay 19 r.stalled) (mark_replay 20 r.nack))
    ∙ four r.information r.last.0 r.start.0 (replay_told r) hi ha hs)
