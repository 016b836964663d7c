-- Laws of tokens: where the first one ends, and that the test of a word decides it.
use Rattle.std.proofs.Common.{Some, None, nat_eq}
use Rattle.std.specs.List.{position, position_or_len}
use Rattle.std.proofs.lemmas.Slice.Eq.{bytes_eq-Decides}
use Rattle.std.proofs.lemmas.Option.{cond_some}
use mathlib.Core.Bool.{Bool, true, false, not, cond}
use mathlib.Core.List.{List, [], ◌∷◌, ◌++◌, append-nil, append_assoc}
use mathlib.Core.Path.{◌≡◌, refl, ap, sym, ◌∙◌}
use Prim.Native.Nat.{ℕ, suc, ◌+◌, ◌-◌}
use native.Mathlib.Omega.{arith}
use lib.Dec.{ltb, eqb}
use lib.ListN.{length, take, drop, length-drop}
use lib.Seq.{take_all}
use borrow.Author.Tests.{eq-eqb, eqb-true, lt-ltb, le-ltb, ltb-true, ltb-false}
use Rattle.std.proofs.lemmas.Bool.{cond-true, cond-false, cond_both}
use Rattle.drive_token.specs.Tokens.{tokens_after, tokens, last, same}

-- ---- the first token

-- a space, another byte, or the end after `token`
cut_space : (token s : List ℕ) (c : ℕ) → c ≡ 32 → tokens_after token (c ∷ s) ≡ token ∷ tokens s
unfolding tokens_after tokens
cut_space token s c h = cond-true (eqb c 32) _ _ (eq-eqb c 32 h)

cut_other : (token s : List ℕ) (c : ℕ) → eqb c 32 ≡ false → tokens_after token (c ∷ s) ≡ tokens_after (token ++ (c ∷ [])) s
unfolding tokens_after
cut_other token s c h = cond-false (eqb c 32) _ _ h

cut_none : (token : List ℕ) → tokens_after token [] ≡ token ∷ []
unfolding tokens_after
cut_none token = refl

-- where the first space is, or the end
abbrev first_space : List ℕ → ℕ
first_space s = position_or_len (λ c. nat_eq c 32) s

-- the tokens after `token`, if the first space of s is at n
abbrev Cut : List ℕ → List ℕ → ℕ → Type 0
Cut token s n =
    tokens_after token s ≡ cond (ltb n (length s)) ((token ++ take n s) ∷ tokens (drop (n + 1) s)) ((token ++ s) ∷ [])

-- one more on both sides of a test
ltb_next : (b : Bool) (m n : ℕ) → ltb m n ≡ b → ltb (1 + m) (suc n) ≡ b
ltb_next true m n h = lt-ltb (1 + m) (suc n) (omega (arith, ltb-true m n h))
ltb_next false m n h = le-ltb (1 + m) (suc n) (omega (arith, ltb-false m n h))

-- the tokens from one byte earlier on
cut_byte_at : (b : Bool) (token s : List ℕ) (c m : ℕ) → eqb c 32 ≡ b → Cut (token ++ (c ∷ [])) s m → Cut token (c ∷ s) (cond (not b) (1 + m) 0)
cut_byte_at true token s c m e h =
    let p : ltb 0 (suc (length s)) ≡ true = lt-ltb 0 (suc (length s)) (omega arith) in
    rw p (cut_space token s c (eqb-true c 32 e) ∙ ap (λ (t : List ℕ). t ∷ tokens s) (sym (append-nil token)))
cut_byte_at false token s c m e h =
    let l : 1 + m ≡ suc m = omega arith in
    let k : suc m + 1 ≡ suc (m + 1) = omega arith in
    rw (ltb_next (ltb m (length s)) m (length s) refl, l, k) (cut_other token s c e ∙ simp append_assoc at h)

cut_at : (token s : List ℕ) → Cut token s (first_space s)
cut_at token [] = cut_none token ∙ ap (λ (t : List ℕ). t ∷ []) (sym (append-nil token))
cut_at token (c ∷ s) = cut_byte_at (eqb c 32) token s c (first_space s) refl (cut_at (token ++ (c ∷ [])) s)

-- a test that gave nothing failed
pub cond_none : {A : Type 0} (b : Bool) (x : A) → cond b (Some x) None ≡ None → b ≡ false
cond_none true x h = cc
cond_none false x h = refl

-- the first token and the rest, as code cuts them out at the first space
pub cut_found : (s : List ℕ) (n : ℕ) → Some n ≡ position (λ c. nat_eq c 32) s
    → tokens s ≡ take n s ∷ tokens (take (length s - (n + 1)) (drop (n + 1) s))
unfolding tokens
cut_found s n e =
    let m = first_space s in
    let k = cond_some (ltb m (length s)) m n (sym e) in
    let b : length s - (n + 1) ≡ length (drop (n + 1) s) = sym (length-drop (n + 1) s) in
    rw (b, take_all (length (drop (n + 1) s)) (drop (n + 1) s) (omega arith), sym k.1) (cut_at [] s ∙ cond-true (ltb m (length s)) _ _ k.0)

-- no space, so the whole is one token
pub cut_missed : (s : List ℕ) → None ≡ position (λ c. nat_eq c 32) s → tokens s ≡ s ∷ []
unfolding tokens
cut_missed s e =
    let m = first_space s in
    cut_at [] s ∙ cond-false (ltb m (length s)) _ _ (cond_none (ltb m (length s)) m (sym e))

-- what holds of every list that is not empty holds of tokens
cut_some : (P : List (List ℕ) → Type 0) → ((t : List ℕ) (ts : List (List ℕ)) → P (t ∷ ts)) → (token s : List ℕ) → P (tokens_after token s)
unfolding tokens_after
cut_some P f token [] = f token []
cut_some P f token (c ∷ s) =
    cond_both (eqb c 32) (token ∷ tokens_after [] s) (tokens_after (token ++ (c ∷ [])) s) P (λ _. f token (tokens_after [] s))
    (λ _. cut_some P f (token ++ (c ∷ [])) s)

pub tokens_some : (P : List (List ℕ) → Type 0) → ((t : List ℕ) (ts : List (List ℕ)) → P (t ∷ ts)) → (s : List ℕ) → P (tokens s)
unfolding tokens
tokens_some P f s = cut_some P f [] s

pub last_more : (t u : List ℕ) (us : List (List ℕ)) → last (t ∷ u ∷ us) ≡ last (u ∷ us)
unfolding last
last_more t u us = refl

pub last_tokens : (t s : List ℕ) → last (t ∷ tokens s) ≡ last (tokens s)
last_tokens t s = tokens_some (λ (l : List (List ℕ)). last (t ∷ l) ≡ last l) (last_more t) s

-- ---- words

pub same_true : (s t : List ℕ) → same s t ≡ true → s ≡ t
unfolding same
same_true s t h = (bytes_eq-Decides s t).0 h
