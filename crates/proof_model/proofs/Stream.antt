-- The abstract link has no bytes. The argument of the third test is made on it (docs/PROOF.md): a step of the proof, of which nothing has
-- to be believed. Here: units, the stream of units that an end is given, and the flits on a wire. Numbers count without end, and the border
-- before a unit is counted in units: so a border is a border by its kind, and no unit can straddle one.
use mathlib.Core.Bool.{Bool, true, false}
use mathlib.Core.List.{List, [], ◌∷◌, ◌++◌}
use Prim.Native.Nat.{ℕ, zero, suc, ◌+◌}

-- the bytes of a flit
abbrev pub Bytes : Type 0
Bytes = List ℕ

-- a unit: its data flits, then its control flit, whose run length is the number of data flits of the next unit
pub record Block : Type 0 where
  pub parts : List Bytes
  pub body : Bytes
  pub run : ℕ

-- the units that an end is given, one after the other; an end has accepted the first few
abbrev pub Stream : Type 0
Stream = ℕ → Block

-- the data flits of unit i
abbrev pub owed : Stream → ℕ → ℕ
owed f zero = 0
owed f (suc i) = (f i).run

-- the number of the first flit of unit i
abbrev pub num : Stream → ℕ → ℕ
num f zero = 0
num f (suc i) = suc (num f i + owed f i)

abbrev pub first : Stream → ℕ → List Block
first f zero = []
first f (suc i) = first f i ++ (f i ∷ [])

abbrev pub some : ℕ → Bool
some zero = false
some (suc n) = true

-- a flit as it was meant; borders of units are counted in units
pub data Flit : Type 0 where
  part : Bytes → Flit
  control : (body : Bytes) → (run ack : ℕ) → Bool → Flit
  idle : (ack : ℕ) → Bool → (run : ℕ) → Flit
  replay : (nack : Bool) → (start run : ℕ) → Bool → (told : ℕ) → Flit

-- on the wire: whether the check will find it right (with its data), and the oldest unit and sent when it was sent
pub record Item : Type 0 where
  pub flit : Flit
  pub ok : Bool
  pub lo : ℕ
  pub hi : ℕ
