-- The table's rule at each entry, for a table of any rule and length.
use mathlib.Core.Path.{◌≡◌, ◌∙◌, ap, sym}
use Prim.Native.Nat.{ℕ, zero, suc, ◌+◌, ◌<◌}
use native.Mathlib.Nat.{add-zero, zero-add, add-suc, suc-add, le_of_suc-le-suc, not-suc-le-zero}
use lib.ListN.{get_or}
use Rattle.crc.specs.Register.{tabulate, table, places, generator}

from : (f : ℕ → ℕ) (i n k : ℕ) → k < n → get_or (tabulate f i n) k 0 ≡ f (i + k)
from f i zero k h = absurd (not-suc-le-zero h)
from f i (suc n) zero h = ap f (sym (add-zero i))
from f i (suc n) (suc k) h = from f (suc i) n k (le_of_suc-le-suc h) ∙ ap f (suc-add i k ∙ sym (add-suc i k))

at : (f : ℕ → ℕ) (n k : ℕ) → k < n → get_or (tabulate f 0 n) k 0 ≡ f k
at f n k h = from f 0 n k h ∙ ap f (zero-add k)

pub entry : (k : ℕ) → k < 256 → get_or table k 0 ≡ places generator 8 k
unfolding table
entry k h = at (places generator 8) 256 k h
