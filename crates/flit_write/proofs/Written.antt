-- Writing: bytes written at a place of a flit, and a mark in a content.
use mathlib.Core.Path.{◌≡◌, sym, ap, ap₂, ◌∙◌}
use mathlib.Core.Bool.{Bool, true, false}
use Rattle.std.specs.Bool.{if◌then◌else◌}
use mathlib.Core.List.{List, ◌++◌, append-nil, append_assoc}
use Prim.Native.Nat.{ℕ, ◌+◌, ◌*◌, ◌^◌, ◌≤◌}
use native.Mathlib.Omega.{arith}
use lib.ListN.{length, take, drop, drop_of_length-le, length-append}
use lib.Pow.{pow-add}
use lib.Seq.{length-take-le, take_at}
use Rattle.flit_read.specs.Bytes.{bytes, Field, bit, write, mark}
use Rattle.flit_read.proofs.Laws.{length_bytes}

-- ---- writing at a place of a flit

pub last_bytes : (f t : List ℕ) (at e : ℕ) → length f ≤ e → take at f ++ (t ++ drop e f) ≡ take at f ++ t
last_bytes f t at e h = rw (drop_of_length-le f h, append-nil t)

-- what stands before the place past a number that was written
pub bytes_written : (w f t : List ℕ) (at n x : ℕ) → w ≡ take at f ++ (t ++ drop (at + n) f) → t ≡ bytes n x → at ≤ length f
    → take (at + n) w ≡ take at f ++ bytes n x
bytes_written w f t at n x e k h =
    ap (take (at + n))
    (e ∙ ap (λ (s : List ℕ). take at f ++ (s ++ drop (at + n) f)) k ∙ sym (append_assoc (take at f) (bytes n x) (drop (at + n) f)))
    ∙ take_at (take at f ++ bytes n x) (drop (at + n) f) (at + n)
    (length-append (take at f) (bytes n x) ∙ ap₂ (λ (i j : ℕ). i + j) (length-take-le at f h) (length_bytes n x))

-- ---- a mark in a content

pub mark_le : (p : Field) (b : Bool) → mark p b ≤ write p 1
mark_le p true = omega arith
mark_le p false = omega arith

pub mark_is : (k : ℕ) (b : Bool) → (if b then 2 ^ k else 0) ≡ mark (bit k) b
mark_is k true = omega arith
mark_is k false = omega arith

-- a mark 96 bits further on
pub mark_replay : (k : ℕ) (b : Bool) → mark (bit (96 + k)) b ≡ 2 ^ 96 * mark (bit k) b
mark_replay k true = let e = pow-add 2 96 k in omega arith
mark_replay k false = omega arith
