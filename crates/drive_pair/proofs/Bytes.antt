-- What a byte does: one that is remembered, a line that is read, and its command for one of the two ends.
use mathlib.Core.List.{List, []}
use mathlib.Core.Path.{◌≡◌, refl, ap, sym, subst, ◌∙◌}
use Prim.Native.Nat.{ℕ, ◌+◌, ◌-◌, ◌≤◌, ◌<◌}
use native.Mathlib.Numerals.{add-one}
use native.Mathlib.Omega.{arith}
use borrow.Author.Tests.{lt-ltb, le-ltb, le-leb, lt-leb, eq-eqb, ne_eqb}
use lib.Dec.{ltb, leb, eqb}
use lib.ListN.{length, take, set, length-set}
use lib.Seq.{length-take-le, take-suc-set, drop-set-lt}
use Rattle.text.specs.Text.{Appends, Room}
use Rattle.text.specs.declared.Writer.{Writer}
use Rattle.text.proofs.Laws.{appends_none}
use Rattle.std.proofs.lemmas.Bool.{cond-true, cond-false}
use Rattle.drive_token.specs.Tokens.{over}
use Rattle.drive_token.proofs.Figures.{over_front}
use Rattle.drive_name.specs.declared.Which.TheVariants as which
use Rattle.drive_script.specs.Script.{line_of, bytes_of, bytes_in, InRange}
use Rattle.drive_script.specs.declared.Command.{Command}
use Rattle.drive_script.specs.declared.Command.TheVariants as command
use Rattle.drive_script.specs.declared.Line.{Line}
use Rattle.drive_script.proofs.Bounds.{line_within, length_bytes}
use Rattle.drive_call.specs.Sides.{Kept, repeated, lent_bytes}
use Rattle.drive_call.proofs.Lent.{clean_past, zeros_clean, cleared_all}
use Rattle.drive_line.specs.Lines.{bad, commanded}
use Rattle.drive_line.proofs.Lengths.{did_short}
use Rattle.drive_pair.specs.Pair.{State, PairStep, answered, ended, longer, byte, LineBuffered, Goes}

-- the same, said otherwise
pub goes_as : {s s' : PairStep} {d : State} {before after : Writer} → s ≡ s' → Goes s d before after → Goes s' d before after
goes_as {d = d} {before} {after} e g = subst (λ (x : PairStep). Goes x d before after) e g

-- ---- a line that is read

pub read_within : (line : List ℕ) {r : Line} → r ≡ line_of line → InRange r.command
read_within line {r} e = line_within line r.command (sym (ap (λ (x : Line). x.command) e))

-- a line of at most 4,096 bytes
pub line_read : (line buffer : List ℕ) {bytes : List ℕ} {r : Line} → length line ≤ 4096 → r ≡ line_of line → bytes ≡ over (bytes_of line) buffer
    → (a b : Kept) → answered a b r.which r.command (take (bytes_in r.command) bytes) ≡ ended (record { a = a; b = b; line = line })
unfolding ended
line_read line buffer {bytes} {r} h e f a b =
    let front = over_front (bytes_of line) buffer (bytes_in r.command) (length_bytes line r.command (sym (ap (λ (x : Line). x.command) e))) in
    ap (λ (x : List ℕ). answered a b r.which r.command (take (bytes_in r.command) x)) f
    ∙ ap (λ (x : List ℕ). answered a b r.which r.command x) front
    ∙ ap (λ (x : Line). answered a b x.which x.command (bytes_of line)) e
    ∙ sym (cond-true (leb (length line) 4096) _ _ (le-leb (length line) 4096 h))

-- a longer one
pub line_long : (line bytes : List ℕ) → 4096 < length line → (a b : Kept)
    → answered a b which.A command.Bad bytes ≡ ended (record { a = a; b = b; line = line })
unfolding answered commanded bad ended
line_long line bytes h a b = sym (cond-false (leb (length line) 4096) _ _ (lt-leb (length line) 4096 h))

pub bad_within : InRange command.Bad
unfolding InRange
bad_within = tt

-- ---- a command for one of the two

-- the next line begins
pub no_line : (n : ℕ) {line : List ℕ} → line ≡ lent_bytes n [] → LineBuffered 0 line
no_line n {line} e = record { inside = omega arith; clean = (zeros_clean line n 0 (cleared_all e refl) (omega arith)).0 }

module _ (a b : Kept) (c : Command) (unit : List ℕ) {k : Kept} {before after : Writer} (room : Room before 8192) where
  pub goes_first : k ≡ (commanded a c unit).kept → Appends before (commanded a c unit).line after
      → Goes (answered a b which.A c unit) (record { a = k; b = b; line = [] }) before after
  unfolding answered
  goes_first e p =
      record {
        state = ap (λ (x : Kept). record { a = x; b = b; line = [] }) e;
        lines = p;
        inside = omega (arith, p.puts, did_short a c unit);
      }

  pub goes_second : k ≡ (commanded b c unit).kept → Appends before (commanded b c unit).line after
      → Goes (answered a b which.B c unit) (record { a = a; b = k; line = [] }) before after
  unfolding answered
  goes_second e p =
      record {
        state = ap (λ (x : Kept). record { a = a; b = x; line = [] }) e;
        lines = p;
        inside = omega (arith, p.puts, did_short b c unit);
      }

-- ---- a byte

pub byte_ends : (s : State) {c : ℕ} → c ≡ 10 → ended s ≡ byte s c
unfolding byte
byte_ends s {c} e = sym (cond-true (eqb c 10) (ended s) _ (eq-eqb c 10 e))

-- any other byte is remembered
pub goes_byte : (s : State) {c : ℕ} {line : List ℕ} (w : Writer) → (c ≡ 10 → ⊥) → line ≡ longer s.line c → Room w 0
    → Goes (byte s c) (record { a = s.a; b = s.b; line = line }) w w
unfolding byte
goes_byte s {c} {line} w z e h =
    goes_as (sym (cond-false (eqb c 10) (ended s) _ (ne_eqb c 10 z)))
    (record { state = ap (λ (x : List ℕ). record { a = s.a; b = s.b; line = x }) e; lines = appends_none w; inside = h })

pub remembered_clean : (line : List ℕ) (bytes c : ℕ) → bytes < 4097 → LineBuffered bytes line → LineBuffered (bytes + 1) (set line bytes c)
remembered_clean line bytes c r i =
    record {
      inside = omega arith;
      clean =
          drop-set-lt (bytes + 1) line bytes c (omega arith)
          ∙ clean_past line bytes (bytes + 1) (omega arith) i.clean
          ∙ ap (λ (m : ℕ). repeated (m - (bytes + 1)) 0) (sym (length-set line bytes c));
    }

module _ {a b : Kept} {line : List ℕ} {bytes : ℕ} {s : State} (v : record { a = a; b = b; line = take bytes line } ≡ s) (size : length line ≡ 4097)
    (i : LineBuffered bytes line) {c : ℕ} (w : Writer) (z : c ≡ 10 → ⊥) (h : Room w 0) where
  -- where there is room
  pub goes_remembered : bytes < 4097 → Goes (byte s c) (record { a = a; b = b; line = take (bytes + 1) (set line bytes c) }) w w
  unfolding longer
  goes_remembered r =
      let k = length-take-le bytes line (omega arith) in
      goes_as (ap (λ (x : State). byte x c) v)
      (goes_byte (record { a = a; b = b; line = take bytes line }) w z
      (ap (λ (m : ℕ). take m (set line bytes c)) (add-one bytes)
      ∙ take-suc-set line bytes c (omega arith)
      ∙ sym (cond-true (ltb (length (take bytes line)) 4097) _ _ (lt-ltb (length (take bytes line)) 4097 (omega arith)))) h)

  -- and where there is none
  pub goes_forgotten : 4097 ≤ bytes → Goes (byte s c) s w w
  unfolding longer
  goes_forgotten r =
      let k = length-take-le bytes line (omega (arith, i.inside)) in
      subst (λ (x : State). Goes (byte x c) x w w) v
      (goes_byte (record { a = a; b = b; line = take bytes line }) w z
      (sym (cond-false (ltb (length (take bytes line)) 4097) _ _ (le-ltb (length (take bytes line)) 4097 (omega arith)))) h)
