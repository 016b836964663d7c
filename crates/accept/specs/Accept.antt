-- Accept takes one unit from the transaction layer (01, "What an end keeps"); what it refuses is `verdict`.
use Rattle.std.specs.Prelude.{List, ℕ, zero, suc, ◌+◌, Result, Ok, Err}
use Rattle.end_state.specs.Update.{with_held}
use Rattle.end_state.specs.Ring.{flit_at, put_at, ring_place}
use Rattle.end_state.specs.declared.End.{End}
use Rattle.end_state.specs.declared.Answered.{Answered}
use Rattle.end_state.specs.declared.Refusal.{Refusal}
use Rattle.accept_verdict.specs.Admission.{flits_of, accept_verdict}

-- the first n flits of the unit written to the places after the held flits
unfoldable pub flits_stored : ℕ → ℕ → ℕ → List ℕ → List ℕ → ℕ → List ℕ
flits_stored places first held store unit zero = store
flits_stored places first held store unit (suc n) =
    put_at (flits_stored places first held store unit n) (ring_place places first (held + n)) (flit_at unit n)

-- what accept answers, with the state after it; what the store then holds
abbrev pub accepted_end : Result (Unit {0}) Refusal → End → List ℕ → End
accepted_end (Err r) e unit = e
accepted_end (Ok u) e unit = with_held (e.held.0 + flits_of unit) e

abbrev pub accepted_store : Result (Unit {0}) Refusal → End → List ℕ → List ℕ → List ℕ
accepted_store (Err r) e store unit = store
accepted_store (Ok u) e store unit = flits_stored e.capacity.0 e.first e.held.0 store unit (flits_of unit)

unfoldable pub accept : End → List ℕ → List ℕ → Answered (Result (Unit {0}) Refusal)
accept e store unit = record { answer = accept_verdict e store unit; end = accepted_end (accept_verdict e store unit) e unit }

unfoldable pub accept_store : End → List ℕ → List ℕ → List ℕ
accept_store e store unit = accepted_store (accept_verdict e store unit) e store unit
