-- Text as bytes: ASCII, decimal numbers, forms, and a buffer with a text written into it.
use Rattle.std.specs.Prelude.{cond, List, [], ◌∷◌, ◌++◌, ◌≡◌, ℕ, zero, suc, ◌+◌, ◌/◌, ◌%◌, ◌≤◌, ltb, eqb, length}
use Rattle.text.specs.declared.Writer.{Writer}
use Prim.Native.Char.{code}
use Prim.Native.String.{String, [] as no_more, ◌∷◌ as ◌then◌}
use Rattle.std.proofs.lemmas.List.Edits.{sets}

-- the bytes of a quoted text
abbrev pub ascii : String → List ℕ
ascii no_more = []
ascii (c then s) = code c ∷ ascii s

-- the digit of a number under 10
abbrev pub digit : ℕ → ℕ
digit n = 48 + n

-- a number in decimal without leading zeros, where it has at most so many digits
unfoldable pub digits : ℕ → ℕ → List ℕ
digits zero n = []
digits (suc k) n = cond (ltb n 10) (digit n ∷ []) (digits k (n / 10) ++ (digit (n % 10) ∷ []))

-- every number here is under 2 ^ 64, which has 20 digits
abbrev pub decimal : ℕ → List ℕ
decimal n = digits 20 n

-- a key and its number
abbrev pub key_value : String → ℕ → List ℕ
key_value key n = ascii key ++ decimal n

-- the byte `#`
abbrev pub hash : ℕ
hash = 35

-- a form with its numbers: each hash stands for the next number, and for itself where none is left
unfoldable pub filled : List ℕ → List ℕ → List ℕ
filled form [] = form
filled [] (n ∷ numbers) = []
filled (b ∷ form) (n ∷ numbers) = cond (eqb b hash) (decimal n ++ filled form numbers) (b ∷ filled form (n ∷ numbers))

-- a buffer with the bytes of a text stored in turn, from place `at` on
unfoldable pub written : List ℕ → ℕ → List ℕ → List ℕ
written out at text = sets out at text

-- a text is put into a buffer: the place after it, and the buffer with it, which is as long as before
pub record Puts (out : List ℕ) (at : ℕ) (text : List ℕ) (next : ℕ) (after : List ℕ) : Type 0 where
  pub place : next ≡ at + length text
  pub bytes : after ≡ written out at text
  pub size : length after ≡ length out

-- a writer has room for so many bytes more
abbrev pub Room : Writer → ℕ → Type 0
Room w bytes = w.at + bytes ≤ length w.out.now

-- a text is put at the place of a writer, which keeps its buffer
pub record Appends (before : Writer) (text : List ℕ) (after : Writer) : Type 0 where
  pub puts : Puts before.out.now before.at text after.at after.out.now
  pub buffer : after.out.ghost_name ≡ before.out.ghost_name
