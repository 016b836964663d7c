-- A refused call of receive answers the refusal and changes neither the state nor hold.
use mathlib.Core.List.{List}
use mathlib.Core.Path.{◌≡◌}
use Prim.Native.Nat.{ℕ}
use lib.ListN.{length}
use Rattle.std.specs.Prelude.{Err}
use Rattle.end_state.specs.declared.End.{End}
use Rattle.end_state.specs.declared.Refusal.{Refusal}
use Rattle.receive_answer.specs.declared.Answer.TheVariants as answer
use Rattle.receive_state.specs.Effects.{end_after}
use Rattle.receive.specs.Receive.{receive_verdict, hold_after, answer_to, receive, receive_hold}

module _ (e : End) (store hold flit : List ℕ) where
  pub answer_refused : (r : Refusal) → receive_verdict e store (length hold) (length flit) ≡ Err r
      → answer_to e store hold flit ≡ answer.Refused r
  unfolding answer_to
  answer_refused r h = simp h

  pub refused_changes_nothing : (r : Refusal) → receive_verdict e store (length hold) (length flit) ≡ Err r
      → ((receive e store hold flit).end ≡ e) × (receive_hold e store hold flit ≡ hold) × ((receive e store hold flit).answer ≡ answer.Refused r)
  unfolding receive receive_hold end_after hold_after
  refused_changes_nothing r h =
      let a = answer_refused r h in
      (simp a, simp a, a)
