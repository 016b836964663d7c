-- A unit that is sealed where it stands in a buffer.
use mathlib.Core.List.{List, ◌++◌}
use mathlib.Core.Path.{◌≡◌, ap, ap₂, ◌∙◌}
use Prim.Native.Nat.{ℕ}
use lib.ListN.{length, take, drop}
use lib.Seq.{take_at, drop_at}
use Rattle.crc.specs.Seal.{sealed}

pub seal_onto : (u r o l : List ℕ) (b : ℕ) → o ≡ u ++ r → length u ≡ b → l ≡ sealed (take b o) → l ++ drop b o ≡ sealed u ++ r
seal_onto u r o l b e h s =
    let t : take b o ≡ u = ap (take b) e ∙ take_at u r b h in
    let d : drop b o ≡ r = ap (drop b) e ∙ drop_at u r b h in
    ap₂ (λ (x y : List ℕ). x ++ y) (s ∙ ap sealed t) d
