-- How the input is cut does not matter: the state and the lines after some parts of an input, one after the other, are those after the whole
-- input. So the program may read as it likes and take as much at a time as has room.
use mathlib.Core.List.{List, [], ◌∷◌, ◌++◌, append_assoc, append-nil}
use mathlib.Core.Path.{◌≡◌, refl, ap, ap₂, sym, ◌∙◌}
use Prim.Native.Nat.{ℕ, zero, suc, ◌+◌, ◌≤◌}
use native.Mathlib.Nat.{add-suc, add-zero}
use native.Mathlib.Omega.{arith}
use lib.ListN.{length, take, get_or, length-append, get_or-append}
use lib.Seq.{get_or-append-add, get_or-take, length-take-le}
use Rattle.drive_pair.specs.Pair.{State, PairStep, byte}
use Rattle.drive_session.specs.Drive.{drive_begun, session, finished, printed_for}

-- one session after another
abbrev followed : PairStep → PairStep → PairStep
followed s t = record { state = t.state; lines = s.lines ++ t.lines }

-- the session over an input, whole
abbrev whole : State → List ℕ → PairStep
whole s input = session s input (length input)

-- one byte more, and none
session_more : (s : State) (input : List ℕ) (n : ℕ)
    → session s input (suc n) ≡ followed (session s input n) (byte (session s input n).state (get_or input n 0))
unfolding session
session_more s input n = refl

session_none : (s : State) (input : List ℕ) → session s input zero ≡ record { state = s; lines = [] }
unfolding session
session_none s input = refl

-- bytes that two inputs share
session_same : (s : State) (a b : List ℕ) (n : ℕ) → ((i : ℕ) → suc i ≤ n → get_or a i 0 ≡ get_or b i 0) → session s a n ≡ session s b n
session_same s a b zero h = session_none s a ∙ sym (session_none s b)
session_same s a b (suc n) h =
    session_more s a n
    ∙ ap₂ (λ (t : PairStep) (c : ℕ). followed t (byte t.state c)) (session_same s a b n (λ i k. h i (omega arith))) (h n (omega arith))
    ∙ sym (session_more s b n)

-- a byte of the second part
followed_more : (s t : PairStep) (c : ℕ) → followed (followed s t) (byte t.state c) ≡ followed s (followed t (byte t.state c))
followed_more s t c = rw append_assoc refl

session_back : (s : State) (a b : List ℕ) (n : ℕ)
    → session s (a ++ b) (length a + n) ≡ followed (whole s a) (session (whole s a).state b n)
session_back s a b zero =
    ap (session s (a ++ b)) (add-zero (length a))
    ∙ session_same s (a ++ b) a (length a) (λ i h. get_or-append a b 0 i h)
    ∙ ap (λ (l : List ℕ). record { state = (whole s a).state; lines = l }) (sym (append-nil (whole s a).lines))
    ∙ ap (followed (whole s a)) (sym (session_none (whole s a).state b))
session_back s a b (suc n) =
    ap (session s (a ++ b)) (add-suc (length a) n)
    ∙ session_more s (a ++ b) (length a + n)
    ∙ ap₂ (λ (t : PairStep) (c : ℕ). followed t (byte t.state c)) (session_back s a b n) (get_or-append-add a b n 0)
    ∙ followed_more (whole s a) (session (whole s a).state b n) (get_or b n 0)
    ∙ ap (followed (whole s a)) (sym (session_more (whole s a).state b n))

-- the session over a whole input, cut into two parts
pub session_cut : (s : State) (a b : List ℕ) → whole s (a ++ b) ≡ followed (whole s a) (whole (whole s a).state b)
session_cut s a b = ap (session s (a ++ b)) (length-append a b) ∙ session_back s a b (length b)

-- what a call uses of its input is a part of it
pub session_part : (s : State) (input : List ℕ) (n : ℕ) → n ≤ length input → session s input n ≡ whole s (take n input)
session_part s input n h =
    session_same s input (take n input) n (λ i k. sym (get_or-take n input i 0 k))
    ∙ ap (session s (take n input)) (sym (length-take-le n input h))

-- an input of parts, and the session over them, one after the other
abbrev pub joined : List (List ℕ) → List ℕ
joined [] = []
joined (part ∷ parts) = part ++ joined parts

abbrev pub in_turn : State → List (List ℕ) → PairStep
in_turn s [] = record { state = s; lines = [] }
in_turn s (part ∷ parts) = followed (whole s part) (in_turn (whole s part).state parts)

pub parts_whole : (s : State) (parts : List (List ℕ)) → in_turn s parts ≡ whole s (joined parts)
parts_whole s [] = sym (session_none s [])
parts_whole s (part ∷ parts) =
    ap (followed (whole s part)) (parts_whole (whole s part).state parts) ∙ sym (session_cut s part (joined parts))

-- what is printed for an input, whatever its parts
pub run_parts : (parts : List (List ℕ)) → (in_turn drive_begun parts).lines ++ (finished (in_turn drive_begun parts).state).lines ≡ printed_for (joined parts)
unfolding printed_for
run_parts parts = ap (λ (s : PairStep). s.lines ++ (finished s.state).lines) (parts_whole drive_begun parts)
