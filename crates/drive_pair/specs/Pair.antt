-- Two ends and the line so far: what one byte of the input does.
use Rattle.std.proofs.Common.{sym, subst}
use Rattle.std.specs.Prelude.{cond, List, [], ◌∷◌, ◌++◌, ◌≡◌, ℕ, ◌≤◌, leb, ltb, eqb, length}
use Rattle.text.specs.Text.{Appends, Room}
use Rattle.text.specs.declared.Writer.{Writer}
use Rattle.drive_name.specs.declared.Which.{Which}
use Rattle.drive_name.specs.declared.Which.TheVariants as which
use Rattle.drive_script.specs.Script.{line_of, bytes_of}
use Rattle.drive_script.specs.declared.Command.{Command}
use Rattle.drive_call.specs.Sides.{Kept, Clean}
use Rattle.drive_line.specs.Lines.{bad_line, commanded}

-- ---- two ends and a line

-- the two ends, and the bytes of the line so far
pub record State : Type 0 where
  pub a : Kept
  pub b : Kept
  pub line : List ℕ

-- what is left, and the lines printed
pub record PairStep : Type 0 where
  pub state : State
  pub lines : List ℕ

-- a command for one of the two; the next line begins
unfoldable pub answered : Kept → Kept → Which → Command → List ℕ → PairStep
answered a b which.A c bytes = record { state = record { a = (commanded a c bytes).kept; b = b; line = [] }; lines = (commanded a c bytes).line }
answered a b which.B c bytes = record { state = record { a = a; b = (commanded b c bytes).kept; line = [] }; lines = (commanded b c bytes).line }

-- the line is whole; longer than 4,096 bytes, it is no command
unfoldable pub ended : State → PairStep
ended s =
    cond (leb (length s.line) 4096)
    (answered s.a s.b (line_of s.line).which (line_of s.line).command (bytes_of s.line))
    (record { state = record { a = s.a; b = s.b; line = [] }; lines = bad_line })

-- one byte more of the line; past 4,097 bytes none is remembered, since the line is no command already
unfoldable pub longer : List ℕ → ℕ → List ℕ
longer line c = cond (ltb (length line) 4097) (line ++ (c ∷ [])) line

-- one byte of the input: a line feed ends a line
unfoldable pub byte : State → ℕ → PairStep
byte s c = cond (eqb c 10) (ended s) (record { state = record { a = s.a; b = s.b; line = longer s.line c }; lines = [] })

-- ---- what stands in the buffers

-- the line so far is inside its buffer; every byte past it is 0
pub record LineBuffered (bytes : ℕ) (line : List ℕ) : Type 0 where
  pub inside : bytes ≤ 4097
  pub clean : Clean bytes line

-- and the buffer is whole
abbrev pub LineWhole : ℕ → List ℕ → Type 0
LineWhole bytes line = (length line ≡ 4097) × LineBuffered bytes line

pub line_inside : {bytes : ℕ} {line : List ℕ} → LineWhole bytes line → bytes ≤ length line
line_inside {bytes} w = subst (λ (n : ℕ). bytes ≤ n) (sym w.0) w.1.inside

-- so many bytes of the line are there
abbrev pub line_bytes : State → ℕ
line_bytes s = length s.line

-- a state is left, and the lines are put
pub record Goes (s : PairStep) (d : State) (before after : Writer) : Type 0 where
  pub state : d ≡ s.state
  pub lines : Appends before s.lines after
  pub inside : Room after 0
