-- `send_replay::write_replays` meets its contract: one flit, written twice.
use mathlib.Core.List.{List, ◌++◌}
use mathlib.Core.Path.{◌≡◌, refl, ap, ◌∙◌}
use Prim.Native.Nat.{ℕ}
use lib.ListN.{drop}
use Rattle.send_replay.specs.Replays.{replay_sent}
use Rattle.send_replay.proofs.Lengths.{length_replay}
use Rattle.end_state.proofs.Parts.{put_after}
use Rattle.send_replay.proofs.write_replays.Goals as goal

pub returns : goal.returns
unfolding replay_sent
returns c =
    let a = c.args in
    let o = a.output.now in
    let s = replay_sent a.e a.run.0 a.errors a.information in
    let r : c.replay_flit-flit.result ≡ s = c.replay_flit-flit.ensures ∙ simp (← c.last_received-last.ensures, c.is_wait.ensures) in
    put_after s _ s o _ 64 64 128 (ap (λ (f : List ℕ). f ++ drop 64 o) (c.put.ensures ∙ r)) (length_replay a.e a.run.0 a.errors a.information) refl (c.put-2.ensures ∙ r)
