-- Two fresh ends on empty wires meet the invariant, and it says the same of the two ends in either order.
use mathlib.Core.Path.{refl}
use mathlib.Core.Bool.{false}
use mathlib.Core.List.{List, []}
use Prim.Native.Nat.{ℕ}
use native.Mathlib.Omega.{arith}
use Rattle.proof_model.proofs.Stream.{Stream, Item}
use Rattle.proof_model.proofs.End.{End, fresh}
use Rattle.proof_model.proofs.Chain.{Chain}
use Rattle.proof_model.proofs.Inv.{Local, Way, Inv}

pub swap : {C : ℕ} {f g : Stream} {e p : End} {l m : List Item} {c d : Chain} → Inv C f g e p l m c d → Inv C g f p e m l d c
swap i = record { own = i.other; other = i.own; to = i.from; from = i.to }

unfoldable pub zero_chain : Chain
zero_chain = record { pos = 0; got = []; stalled = false; told = 0; lo = 0; hi = 0 }

pub begins : (C : ℕ) (f g : Stream) → Inv C f g fresh fresh [] [] zero_chain zero_chain
unfolding fresh zero_chain
begins C f g = record { own = alone f; other = alone g; to = way f g; from = way g f }
  where
    alone : (f : Stream) → Local C f fresh.s
    alone f =
        record {
          begun = omega arith;
          behind = omega arith;
          given = omega arith;
          freed = omega arith;
          kept = omega arith;
          past = omega arith;
          fits = omega arith;
          cut = λ i h. absurd (omega arith);
        }

    way : (f g : Stream) → Way C f g fresh [] zero_chain fresh
    way f g =
        record {
          wire = tt;
          tail = record { rest = record { none = refl; bit = refl }; place = λ h. refl; hi = omega arith; lo = omega arith; told = refl };
          head =
              record {
                hi = omega arith;
                acked = omega arith;
                at = record { pos = refl; hold = refl; bit = refl; owes = refl; told = refl; behind = omega arith };
                out = refl;
              };
        }
