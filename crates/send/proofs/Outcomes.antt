-- A refusal changes neither the state nor the output.
use mathlib.Core.List.{List}
use mathlib.Core.Path.{◌≡◌}
use Prim.Native.Nat.{ℕ}
use lib.ListN.{length}
use Rattle.std.specs.Prelude.{Err}
use Rattle.end_state.specs.declared.End.{End}
use Rattle.end_state.specs.declared.Refusal.{Refusal}
use Rattle.send.specs.Send.{send_verdict, send, send_output}

pub refused_changes_nothing : (e : End) (store output : List ℕ) (errors information : ℕ) (r : Refusal) → send_verdict e store (length output) ≡ Err r
    → ((send e store (length output)).end ≡ e) × (send_output e store output errors information ≡ output)
unfolding send send_output
refused_changes_nothing e store output errors information r h = (simp h, simp h)
