-- The laws of numbers that begin again after 2 ^ k - 1, stated once over the width k and over what the acknowledge number means.
-- Each follows from one fact: where r + b comes round to a, r is the difference of a and b.
use Rattle.std.proofs.Common.{◌≡◌, ℕ, ◌+◌, ◌-◌, ◌%◌, ◌^◌, ◌<◌, ◌≤◌, sym, refl, ap, ◌∙◌, add_assoc, mod-lt, mod-eq_of_lt, add_comm, arith, pow_pos}
use native.Mathlib.Nat.{mod-add-mod, add-mod_right}
use Rattle.flit_number.specs.Numbers.{after, difference, Meaning, last_received, next_wanted, acknowledge_for, wanted_by}

module _ (k : ℕ) where
  pub after_lt : (a n : ℕ) → after k a n < 2 ^ k
  unfolding after
  after_lt a n = mod-lt (a + n) (pow_pos k)

  pub difference_lt : (a b : ℕ) → difference k a b < 2 ^ k
  unfolding difference
  difference_lt a b = mod-lt (a + (2 ^ k - b)) (pow_pos k)

  -- m flits on and n flits on are m + n flits on
  pub after_after : (a m n : ℕ) → after k (after k a m) n ≡ after k a (m + n)
  unfolding after
  after_after a m n = mod-add-mod (a + m) (2 ^ k) n ∙ ap (λ (x : ℕ). x % 2 ^ k) (add_assoc a m n)

  -- what wraps back to a by b is the difference
  pub difference_is : (r a b : ℕ) → r < 2 ^ k → b ≤ 2 ^ k → (r + b) % 2 ^ k ≡ a → r ≡ difference k a b
  unfolding difference
  difference_is r a b hr hb e =
      let p : r + b + (2 ^ k - b) ≡ r + 2 ^ k = omega arith in
      sym
      (ap (λ (x : ℕ). (x + (2 ^ k - b)) % 2 ^ k) (sym e) ∙ mod-add-mod (r + b) (2 ^ k) (2 ^ k - b)
      ∙ ap (λ (x : ℕ). x % 2 ^ k) p
      ∙ add-mod_right r (2 ^ k)
      ∙ mod-eq_of_lt hr)

  -- a difference undoes a step, and a step a difference
  pub difference_after : (a n : ℕ) → a < 2 ^ k → n < 2 ^ k → difference k (after k a n) a ≡ n
  unfolding after
  difference_after a n ha hn = sym (difference_is n (after k a n) a hn (omega arith) (ap (λ (z : ℕ). z % 2 ^ k) (add_comm n a)))

  pub after_difference : (a b : ℕ) → a < 2 ^ k → b ≤ 2 ^ k → after k b (difference k a b) ≡ a
  unfolding after difference
  after_difference a b ha hb =
      let p : a + (2 ^ k - b) + b ≡ a + 2 ^ k = omega arith in
      ap (λ (x : ℕ). x % 2 ^ k) (add_comm b ((a + (2 ^ k - b)) % 2 ^ k))
      ∙ mod-add-mod (a + (2 ^ k - b)) (2 ^ k) b
      ∙ ap (λ (x : ℕ). x % 2 ^ k) p
      ∙ add-mod_right a (2 ^ k)
      ∙ mod-eq_of_lt ha

  -- n flits further on, where that does not come round
  pub further : (a b n : ℕ) → difference k a b + n < 2 ^ k → difference k (after k a n) b ≡ difference k a b + n
  unfolding after difference
  further a b n h =
      let p : a + n + (2 ^ k - b) ≡ a + (2 ^ k - b) + n = omega arith in
      mod-add-mod (a + n) (2 ^ k) (2 ^ k - b)
      ∙ ap (λ (x : ℕ). x % 2 ^ k) p
      ∙ sym (mod-add-mod (a + (2 ^ k - b)) (2 ^ k) n)
      ∙ mod-eq_of_lt h

  -- from o to a and on to s is from o to s, where a comes first
  pub difference_split : (o a s : ℕ) → o < 2 ^ k → a < 2 ^ k → s < 2 ^ k → difference k a o ≤ difference k s o
      → difference k s a ≡ difference k s o - difference k a o
  difference_split o a s ho ha hs h =
      let x = difference k a o in
      let y = difference k s o in
      let p : x + (y - x) ≡ y = omega arith in
      let e : after k a (y - x) ≡ s =
      ap (λ (z : ℕ). after k z (y - x)) (sym (after_difference a o ha (omega arith))) ∙ after_after o x (y - x) ∙ ap (after k o) p
      ∙ after_difference s o hs (omega arith) in
      ap (λ (z : ℕ). difference k z a) (sym e) ∙ difference_after a (y - x) ha (omega (arith, difference_lt s o))

  -- the sender of an acknowledge number is understood: what it wants comes back
  pub wanted_told : (m : Meaning) (w : ℕ) → w < 2 ^ k → wanted_by m k (acknowledge_for m k w) ≡ w
  unfolding wanted_by acknowledge_for after
  wanted_told last_received w h =
      ap (λ (x : ℕ). x % 2 ^ k) (add_comm (difference k w 1) 1) ∙ after_difference w 1 h (omega arith)
  wanted_told next_wanted w h = refl

-- What both editions rest on, as one record: over the width and the meaning of the acknowledge number.
pub record Counting (k : ℕ) (m : Meaning) : Type 0 where
  pub steps : (a p n : ℕ) → after k (after k a p) n ≡ after k a (p + n)
  pub undone : (a n : ℕ) → a < 2 ^ k → n < 2 ^ k → difference k (after k a n) a ≡ n
  pub reached : (a b : ℕ) → a < 2 ^ k → b < 2 ^ k → after k b (difference k a b) ≡ a
  pub understood : (w : ℕ) → w < 2 ^ k → wanted_by m k (acknowledge_for m k w) ≡ w

pub counting : (k : ℕ) (m : Meaning) → Counting k m
counting k m =
    record {
      steps = after_after k;
      undone = difference_after k;
      reached = λ a b ha hb. after_difference k a b ha (omega arith);
      understood = wanted_told k m;
    }

-- DL 3.0/4.0, and DL 3.1 (condition C)
pub dl_3_0 : Counting 16 last_received
dl_3_0 = counting 16 last_received

pub dl_3_1 : Counting 12 next_wanted
dl_3_1 = counting 12 next_wanted
