-- A refused call of accept answers the refusal and changes neither the state nor the store.
use mathlib.Core.List.{List}
use mathlib.Core.Path.{◌≡◌}
use Prim.Native.Nat.{ℕ}
use Rattle.std.specs.Prelude.{Err}
use Rattle.end_state.specs.declared.End.{End}
use Rattle.end_state.specs.declared.Refusal.{Refusal}
use Rattle.accept_verdict.specs.Admission.{accept_verdict}
use Rattle.accept.specs.Accept.{accept, accept_store}

pub refused_changes_nothing : (e : End) (store unit : List ℕ) (r : Refusal) → accept_verdict e store unit ≡ Err r
    → ((accept e store unit).end ≡ e) × (accept_store e store unit ≡ store)
unfolding accept accept_store
refused_changes_nothing e store unit r h = (simp h, simp h)
