-- A clean buffer is its kept bytes with zeros after them, so what is kept of it gives the whole buffer back.
use Rattle.std.proofs.Common.{ap, sym, ◌∙◌}
use Rattle.std.proofs.lemmas.List.{take-append-drop, length-take-le}
use Rattle.std.specs.Prelude.{List, ◌++◌, ◌≡◌, ℕ, ◌-◌, ◌≤◌, length, take}
use Rattle.drive_call.specs.Sides.{Clean, repeated}

-- the kept bytes, and zeros after them: a buffer of so many bytes
abbrev pub whole_buffer : ℕ → List ℕ → List ℕ
whole_buffer n kept = kept ++ repeated (n - length kept) 0

pub whole_again : (xs : List ℕ) (kept n : ℕ) → length xs ≡ n → kept ≤ length xs → Clean kept xs → whole_buffer n (take kept xs) ≡ xs
whole_again xs kept n e h z =
    ap (λ (m : ℕ). take kept xs ++ repeated (n - m) 0) (length-take-le kept xs h)
    ∙ ap (λ (m : ℕ). take kept xs ++ repeated (m - kept) 0) (sym e)
    ∙ ap (λ (l : List ℕ). take kept xs ++ l) (sym z)
    ∙ take-append-drop kept xs
