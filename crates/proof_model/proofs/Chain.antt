-- The wire. Along it goes the state that an undisturbed receiver would have: where it stands, the data flits it has, whether it is stalled,
-- how much it has been told of its own sending, and the sender's oldest unit and sent when the flit was sent. Each flit fits the state
-- before it and makes the state after it, so that taking a flit from the wire is to take a step.
use mathlib.Core.Path.{◌≡◌, refl}
use mathlib.Core.Bool.{Bool, true, false}
use mathlib.Core.List.{List, [], ◌∷◌, ◌++◌}
use Prim.Native.Nat.{ℕ, suc, ◌+◌, ◌≤◌, ◌<◌}
use native.Mathlib.Omega.{arith}
use lib.ListN.{length}
use Rattle.proof_model.proofs.Stream.{Bytes, Stream, owed, num, some, Flit, Item, part, control, idle, replay}

pub record Chain : Type 0 where
  pub pos : ℕ
  pub got : List Bytes
  pub stalled : Bool
  pub told : ℕ
  pub lo : ℕ
  pub hi : ℕ

abbrev pub step : Chain → Flit → ℕ → ℕ → Chain
step c (part x) lo hi = record { pos = c.pos; got = c.got ++ (x ∷ []); stalled = c.stalled; told = c.told; lo = lo; hi = hi }
step c (control b n k st) lo hi = record { pos = suc c.pos; got = []; stalled = st; told = c.told + k; lo = lo; hi = hi }
step c (idle k st n) lo hi = record { pos = c.pos; got = c.got; stalled = st; told = c.told + k; lo = lo; hi = hi }
step c (replay na p n st t) lo hi = record { pos = p; got = []; stalled = st; told = t; lo = lo; hi = hi }

abbrev pub after : Chain → Item → Chain
after c x = step c x.flit x.lo x.hi

abbrev pub final : Chain → List Item → Chain
final c [] = c
final c (x ∷ l) = final (after c x) l

-- between units
pub record Rest (f : Stream) (c : Chain) : Type 0 where
  pub none : c.got ≡ []
  pub bit : c.stalled ≡ some (owed f c.pos)

pub record Closing (f : Stream) (c : Chain) (b : Bytes) (n : ℕ) (st ok : Bool) (lo hi : ℕ) : Type 0 where
  pub bit : c.stalled ≡ false
  pub full : length c.got ≡ owed f c.pos
  pub same : ok ≡ true → record { parts = c.got; body = b; run = n } ≡ f c.pos
  pub run : n ≡ (f c.pos).run
  pub next : st ≡ some n
  pub above : lo ≤ c.pos
  pub below : c.pos < hi

pub record Opening (f : Stream) (c : Chain) : Type 0 where
  pub bit : c.stalled ≡ false
  pub room : length c.got < owed f c.pos

pub record Back (f : Stream) (c : Chain) (p n : ℕ) (st : Bool) (t lo hi : ℕ) : Type 0 where
  pub rest : Rest f c
  pub run : n ≡ owed f p
  pub next : st ≡ some n
  pub grows : c.told ≤ t
  pub above : lo ≤ p
  pub below : p ≤ hi

pub record Idling (f : Stream) (c : Chain) (n : ℕ) : Type 0 where
  pub rest : Rest f c
  pub run : n ≡ owed f c.pos

abbrev pub Fit : Stream → Chain → Flit → Bool → ℕ → ℕ → Type 0
Fit f c (part x) ok lo hi = Opening f c
Fit f c (control b n k st) ok lo hi = Closing f c b n st ok lo hi
Fit f c (idle k st n) ok lo hi = Idling f c n
Fit f c (replay na p n st t) ok lo hi = Back f c p n st t lo hi

pub record Fits (C : ℕ) (f : Stream) (c : Chain) (x : Item) : Type 0 where
  pub fit : Fit f c x.flit x.ok x.lo x.hi
  pub lo : c.lo ≤ x.lo
  pub hi : c.hi ≤ x.hi
  pub span : num f x.hi ≤ num f x.lo + C

abbrev pub Wire : ℕ → Stream → Chain → List Item → Type 0
Wire C f c [] = Unit {0}
Wire C f c (x ∷ l) = Fits C f c x × Wire C f (after c x) l

-- the bounds never fall
pub record Grows (c d : Chain) : Type 0 where
  pub lo : c.lo ≤ d.lo
  pub hi : c.hi ≤ d.hi
  pub told : c.told ≤ d.told

pub grow_told : (f : Stream) (c : Chain) (x : Flit) (ok : Bool) (lo hi : ℕ) → Fit f c x ok lo hi → c.told ≤ (step c x lo hi).told
grow_told f c (part x) ok lo hi h = omega arith
grow_told f c (control b n k st) ok lo hi h = omega arith
grow_told f c (idle k st n) ok lo hi h = omega arith
grow_told f c (replay na p n st t) ok lo hi h = h.grows

pub step_lo : (c : Chain) (x : Flit) (lo hi : ℕ) → (step c x lo hi).lo ≡ lo
step_lo c (part x) lo hi = refl
step_lo c (control b n k st) lo hi = refl
step_lo c (idle k st n) lo hi = refl
step_lo c (replay na p n st t) lo hi = refl

pub step_hi : (c : Chain) (x : Flit) (lo hi : ℕ) → (step c x lo hi).hi ≡ hi
step_hi c (part x) lo hi = refl
step_hi c (control b n k st) lo hi = refl
step_hi c (idle k st n) lo hi = refl
step_hi c (replay na p n st t) lo hi = refl

pub grows : (C : ℕ) (f : Stream) (c : Chain) (l : List Item) → Wire C f c l → Grows c (final c l)
grows C f c [] w = record { lo = omega arith; hi = omega arith; told = omega arith }
grows C f c (x ∷ l) w =
    let ih : Grows (after c x) (final (after c x) l) = grows C f (after c x) l w.1 in
    let t : c.told ≤ (after c x).told = grow_told f c x.flit x.ok x.lo x.hi w.0.fit in
    let a : (after c x).lo ≡ x.lo = step_lo c x.flit x.lo x.hi in
    let b : (after c x).hi ≡ x.hi = step_hi c x.flit x.lo x.hi in
    let p : c.lo ≤ x.lo = w.0.lo in
    let q : c.hi ≤ x.hi = w.0.hi in
    record { lo = omega arith; hi = omega arith; told = omega arith }

-- more is sent
pub final_append : (c : Chain) (l m : List Item) → final c (l ++ m) ≡ final (final c l) m
final_append c [] m = refl
final_append c (x ∷ l) m = final_append (after c x) l m

pub wire_append : (C : ℕ) (f : Stream) (c : Chain) (l m : List Item) → Wire C f c l → Wire C f (final c l) m → Wire C f c (l ++ m)
wire_append C f c [] m w v = v
wire_append C f c (x ∷ l) m w v = (w.0, wire_append C f (after c x) l m w.1 v)
