-- Tokens of a line: where they are cut, and the numbers and bytes that they say.
use Rattle.std.specs.Prelude.{Option, Some, None, Bool, ◌&&◌, ◌||◌, cond, List, [], ◌∷◌, ◌++◌, ℕ, ◌+◌, ◌-◌, ◌*◌, ◌%◌, min, leb, ltb, eqb, length, drop}
use Rattle.std.specs.Borrow.{Bor}
use Rattle.std.specs.List.{list_all}
use Rattle.std.specs.Str.{bytes_eq}
use Rattle.text.specs.Text.{ascii}

-- ---- tokens

-- one space separates two tokens; `token` is the one so far
unfoldable pub tokens_after : List ℕ → List ℕ → List (List ℕ)
tokens_after token [] = token ∷ []
tokens_after token (c ∷ s) = cond (eqb c 32) (token ∷ tokens_after [] s) (tokens_after (token ++ (c ∷ [])) s)

unfoldable pub tokens : List ℕ → List (List ℕ)
tokens line = tokens_after [] line

-- the tokens of what follows a space, if something does
abbrev pub tokens_in : Option (Bor (List ℕ)) → List (List ℕ)
tokens_in None = []
tokens_in (Some s) = tokens s.now

unfoldable pub last : List (List ℕ) → List ℕ
last [] = []
last (t ∷ []) = t
last (t ∷ u ∷ ts) = last (u ∷ ts)

-- a token is a word
unfoldable pub same : List ℕ → List ℕ → Bool
same s t = bytes_eq s t

-- ---- numbers: decimal digits, leading zeros allowed, however many

abbrev pub is_digit : ℕ → Bool
is_digit c = leb 48 c && leb c 57

unfoldable pub all_digits : List ℕ → Bool
all_digits t = list_all is_digit t

-- the number n with more digits after it
unfoldable pub value_from : ℕ → List ℕ → ℕ
value_from n [] = n
value_from n (c ∷ t) = value_from (n * 10 + (c - 48)) t

unfoldable pub value : List ℕ → ℕ
value t = value_from 0 t

-- at least one digit
abbrev pub is_decimal : List ℕ → Bool
is_decimal t = ltb 0 (length t) && all_digits t

-- a number of at most `max`
unfoldable pub is_number : ℕ → List ℕ → Bool
is_number max t = is_decimal t && leb (value t) max

-- an offset has no most of its own: a larger one is past every store too
unfoldable pub offset_value : List ℕ → ℕ
offset_value t = min (value t) 18446744073709551615

-- ---- HEX: lower-case hexadecimal, two digits a byte, byte 0 first, at most 2,000 bytes; - for none

-- 16 for what is no digit
unfoldable pub nibble : ℕ → ℕ
nibble c = cond (is_digit c) (c - 48) (cond (leb 97 c && leb c 102) (c - 87) 16)

unfoldable pub all_hex : List ℕ → Bool
all_hex t = list_all (λ c. ltb (nibble c) 16) t

unfoldable pub digit_pairs : List ℕ → Bool
digit_pairs t = ltb 0 (length t) && eqb (length t % 2) 0 && leb (length t) 4000 && all_hex t

unfoldable pub is_bytes : List ℕ → Bool
is_bytes t = same t (ascii "-") || digit_pairs t

unfoldable pub pairs : List ℕ → List ℕ
pairs [] = []
pairs (h ∷ []) = []
pairs (h ∷ l ∷ t) = (nibble h * 16 + nibble l) ∷ pairs t

-- the first places of a buffer with bytes in them
unfoldable pub over : List ℕ → List ℕ → List ℕ
over bytes buffer = bytes ++ drop (length bytes) buffer
