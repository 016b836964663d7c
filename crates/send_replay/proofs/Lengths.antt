-- The bytes of the idle and the replay flits that are sent.
use mathlib.Core.Bool.{Bool}
use mathlib.Core.List.{◌++◌}
use mathlib.Core.Path.{◌≡◌}
use Prim.Native.Nat.{ℕ}
use lib.ListN.{length, length-append}
use Rattle.crc.proofs.Sealing.{length_sealed}
use Rattle.flit_write.specs.Flits.{idle_flit, replay_flit}
use Rattle.flit_read.proofs.Laws.{length_bytes}
use Rattle.end_state.specs.declared.End.{End}
use Rattle.send_replay.specs.Replays.{replay_sent}

pub length_idle : (acks : ℕ) (stalled : Bool) (owed : ℕ) → length (idle_flit acks stalled owed) ≡ 64
unfolding idle_flit
length_idle acks stalled owed = simp (length_sealed, length_bytes)

pub length_replay : (e : End) (run errors information : ℕ) → length (replay_sent e run errors information) ≡ 64
unfolding replay_sent replay_flit
length_replay e run errors information = simp (length_sealed, length_bytes)

pub length_replays : (e : End) (run errors information : ℕ)
    → length (replay_sent e run errors information ++ replay_sent e run errors information) ≡ 128
length_replays e run errors information = simp (length-append, length_replay)
