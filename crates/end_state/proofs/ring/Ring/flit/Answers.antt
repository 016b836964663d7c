-- `end_state::ring::Ring::flit` meets its contract: the part is the flit at its place.
use mathlib.Core.Path.{refl, ap, ◌∙◌}
use Prim.Native.Nat.{◌+◌, ◌*◌, ◌-◌}
use native.Mathlib.Omega.{arith}
use Rattle.end_state.specs.Ring.{flit_at}
use Rattle.end_state.proofs.Parts.{flit_is}
use Rattle.end_state.proofs.ring.Ring.flit.Goals as goal

pub returns-clause-value : goal.returns-clause-value
returns-clause-value c = let p = c.place-from in
    flit_is c.args.self.store.now p.result (p.result * 64) (p.result * 64 + 64 - p.result * 64) refl (omega arith)
    ∙ ap (flit_at c.args.self.store.now) p.ensures.value
