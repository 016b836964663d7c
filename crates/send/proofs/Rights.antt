-- Every flit and unit that is sent is right by the check.
use mathlib.Core.Bool.{Bool, true}
use mathlib.Core.List.{List, ◌++◌}
use mathlib.Core.Path.{◌≡◌}
use Prim.Native.Nat.{ℕ, ◌≤◌}
use native.Mathlib.Omega.{arith}
use lib.ListN.{length, take, replicate, length-append}
use Rattle.crc.specs.Unit.{right}
use Rattle.crc.specs.Seal.{sealed}
use Rattle.crc.proofs.Sealing.{sealed_right}
use Rattle.flit_read.specs.Bytes.{bytes}
use Rattle.flit_write.specs.Flits.{control_told, idle_flit, replay_flit}
use Rattle.flit_write.specs.declared.Replay.{Replay}
use Rattle.flit_read.proofs.Laws.{length_bytes}
use Rattle.end_state.specs.Refusals.{cursor_at}
use Rattle.end_state.specs.declared.End.{End}
use Rattle.send_unit.specs.Units.{stored_flits, unit_sent}
use Rattle.send_replay.specs.Replays.{replay_sent}
use Rattle.send_unit.proofs.Lengths.{control_sent}

-- what ends in n bytes has at least n
ends_in : (s : List ℕ) (n x : ℕ) → n ≤ length (s ++ bytes n x)
ends_in s n x = omega (arith, length-append s (bytes n x), length_bytes n x)

right_of : (s : List ℕ) (n x : ℕ) → 5 ≤ n → right (sealed (s ++ bytes n x)) ≡ true
right_of s n x h = sealed_right (s ++ bytes n x) (omega (arith, ends_in s n x))

pub idle_right : (acks : ℕ) (stalled : Bool) (owed : ℕ) → right (idle_flit acks stalled owed) ≡ true
unfolding idle_flit
idle_right acks stalled owed = right_of (replicate 56 0) 8 _ (omega arith)

replay_flit_right : (r : Replay) → right (replay_flit r) ≡ true
unfolding replay_flit
replay_flit_right r = right_of (replicate 44 0) 20 _ (omega arith)

pub replay_right : (e : End) (run errors information : ℕ) → right (replay_sent e run errors information) ≡ true
unfolding replay_sent
replay_right e run errors information = replay_flit_right _

told_long : (flit : List ℕ) (acks : ℕ) (stalled : Bool) → 8 ≤ length (control_told flit acks stalled)
unfolding control_told
told_long flit acks stalled = ends_in (take 56 flit) 8 _

pub unit_right : (e : End) (store : List ℕ) (run acks : ℕ) → right (unit_sent e store run acks) ≡ true
unfolding unit_sent
unit_right e store run acks =
    let d = stored_flits e.capacity.0 e.first store (cursor_at e) run in
    let f = control_sent e store run acks in
    let l : 8 ≤ length f = told_long _ acks _ in
    sealed_right (d ++ f) (omega (arith, length-append d f))
