-- `flit_write::replay_flit` meets its contract: four numbers, one after the other, are the sum of the fields.
use mathlib.Core.Path.{◌≡◌, sym, ap, ◌∙◌}
use mathlib.Core.List.{List, ◌++◌, append_assoc}
use Prim.Native.Nat.{ℕ, ◌+◌, ◌*◌}
use lib.ListN.{replicate, take}
use Rattle.crc.specs.Seal.{sealed}
use Rattle.flit_read.specs.Bytes.{bytes}
use Rattle.flit_read.proofs.Laws.{bytes_2, bytes_8}
use Rattle.flit_write.proofs.Written.{bytes_written, mark_is}
use Rattle.flit_write.proofs.Numbers.{replay_told, replay_parts}
use native.Mathlib.Omega.{arith}
use Rattle.flit_write.proofs.replay_flit.Goals as goal

-- the flit as it is put together
together : (z w₁ w₂ w₃ : List ℕ) (i a s x : ℕ)
    → take 52 w₁ ≡ take 44 z ++ bytes 8 i → take 54 w₂ ≡ take 52 w₁ ++ bytes 2 a → take 56 w₃ ≡ take 54 w₂ ++ bytes 2 s
    → take 56 w₃ ++ bytes 8 x ≡ take 44 z ++ (bytes 8 i ++ (bytes 2 a ++ (bytes 2 s ++ bytes 8 x)))
together z w₁ w₂ w₃ i a s x e₁ e₂ e₃ = rw (e₃, e₂, e₁) (simp append_assoc)

pub returns : goal.returns
returns c = let r = c.args.r in
    let z = replicate {A = ℕ} 64 0 in
    let w₁ = c.with_bytes-told in
    let w₂ = c.with_bytes-last in
    let w₃ = c.with_bytes-start in
    let t₁ = bytes_written w₁.result z _ 44 8 r.information w₁.ensures (c.to_le_bytes.ensures ∙ bytes_8 r.information) (omega arith) in
    let t₂ = bytes_written w₂.result w₁.result _ 52 2 r.last.0 w₂.ensures (c.to_le_bytes-2.ensures ∙ bytes_2 r.last.0) (omega arith) in
    let t₃ = bytes_written w₃.result w₂.result _ 54 2 r.start.0 w₃.ensures (c.to_le_bytes-3.ensures ∙ bytes_2 r.start.0) (omega arith) in
    let x = 10 + 16 * r.previous.0 + 256 * r.errors + c.mark.result + c.mark-2.result in
    let e : x ≡ replay_told r = omega (arith, mark_is 19 r.stalled, mark_is 20 r.nack) in
    c.seal.ensures
    ∙ ap sealed
    (c.with_content-flit.ensures
    ∙ together z w₁.result w₂.result w₃.result r.information r.last.0 r.start.0 x t₁ t₂ t₃
    ∙ ap (λ (y : ℕ). replicate 44 0 ++ (bytes 8 r.information ++ (bytes 2 r.last.0 ++ (bytes 2 r.start.0 ++ bytes 8 y)))) e)
    ∙ sym (replay_parts r (omega arith) (omega arith) (omega arith))
