-- A burst in the output: a flit and then what is written to the rest of the output. Of a part that comes back the borrow checker says
-- `put_mid`: the part's bytes in their place.
use mathlib.Core.List.{List, [], ◌++◌, append_assoc, append-nil}
use mathlib.Core.Path.{◌≡◌, sym, ap, ap₂, ◌∙◌}
use Prim.Native.Nat.{ℕ, ◌+◌, ◌-◌}
use native.Mathlib.Omega.{arith}
use borrow.Rule.Slice.PartMut.{put_mid}
use lib.ListN.{length, take, drop, drop_of_length-le, length-drop}
use lib.Seq.{take_at, drop_at, drop-drop, take_all}

-- the rest of a slice past its first flit is lent on
pub put_rest : (i u o p l : List ℕ) (k b : ℕ) → length i ≡ 64 → p ≡ i ++ drop 64 o → k ≡ length p - 64 → l ≡ u ++ drop b (take k (drop 64 p))
    → put_mid 64 k p l ≡ (i ++ u) ++ drop (64 + b) o
put_rest i u o p l k b h e n s =
    let t : take 64 p ≡ i = ap (take 64) e ∙ take_at i (drop 64 o) 64 h in
    let d : drop 64 p ≡ drop 64 o = ap (drop 64) e ∙ drop_at i (drop 64 o) 64 h in
    let m : take k (drop 64 p) ≡ drop 64 o = take_all k (drop 64 p) (omega (arith, length-drop 64 p)) ∙ d in
    let z : drop k (drop 64 p) ≡ [] = drop_of_length-le (drop 64 p) {i = k} (omega (arith, length-drop 64 p)) in
    let w : l ≡ u ++ drop (64 + b) o = s ∙ ap (λ (y : List ℕ). u ++ drop b y) m ∙ ap (λ (y : List ℕ). u ++ y) (drop-drop b 64 o) in
    ap₂ (λ (x y : List ℕ). x ++ y) t (ap₂ (λ (x y : List ℕ). x ++ y) w z ∙ append-nil (u ++ drop (64 + b) o))
    ∙ sym (append_assoc i u (drop (64 + b) o))

-- the output begins with b, where it begins with x and b is x
pub begins : (b x o p : List ℕ) (n : ℕ) → b ≡ x → length x ≡ n → p ≡ x ++ drop n o → p ≡ b ++ drop (length b) o
begins b x o p n e h w = w ∙ ap₂ (λ (y : List ℕ) (m : ℕ). y ++ drop m o) (sym e) (sym h ∙ sym (ap length e))
