-- The wire as bytes and as flits one by one. What has been sent, flit by flit, is what arrives, flit by flit; the units whose last flit
-- is among the first t flits are those that have arrived when t flits have; and where nothing was altered, the units along a wire are the
-- units of the sender's stream, one after the other.
use mathlib.Core.Path.{◌≡◌, refl, ap, ap₂, sym, ◌∙◌}
use mathlib.Core.Bool.{Bool, true, false, true≢false, cond}
use mathlib.Core.List.{List, [], ◌∷◌, ◌++◌, map, append_assoc, append-nil}
use Prim.Native.Nat.{ℕ, zero, suc, ◌+◌, ◌-◌, ◌*◌, ◌≤◌, ◌<◌}
use native.Mathlib.Omega.{arith}
use native.Mathlib.Decide.{dec_le, dec_lt}
use borrow.Author.Tests.{le-leb, lt-leb, eq-eqb, ne_eqb}
use lib.Dec.{leb}
use lib.ListN.{length, take, drop, get_or, length-append, get_or-append}
use lib.Seq.{take_at, drop_at, take-append-add, take-append-le, get_or-append-add}
use Rattle.flit_write.specs.Flits.{bare_control}
use Rattle.end_state.specs.Ring.{flit_at}
use Rattle.proof_model.proofs.Stream.{Stream, first, Flit, Item, part, control, idle, replay}
use Rattle.proof_model.proofs.Chain.{Chain, step, after, final, Wire, Fits}
use Rattle.proof_model.proofs.Clean.{Straight, Goes}
use Rattle.proof_wire.specs.System.{Passage, arriving}
use Rattle.proof_wire.specs.Theorem.{as_handed, is_unit, arrived_units}
use Rattle.proof_wire.proofs.Pieces.{joined, flit_append_left, flit_append_right}
use Rattle.proof_wire.proofs.Wrap.{most}
use Rattle.proof_wire.proofs.Says.{Flight, flit, ends_unit, Reads, ReadsAll, ReadsControl, bytes_of, units, units_append}
use Rattle.proof_wire.proofs.Makes.{spread, flights, flits, Sized}

-- ---- passages

pub sized_append : (ps qs : List Passage) → Sized ps → Sized qs → Sized (ps ++ qs)
sized_append [] qs h k = k
sized_append (p ∷ ps) qs h k = (h.0, h.1, sized_append ps qs h.2 k)

pub flights_append : (ps qs : List Passage) → flights (ps ++ qs) ≡ flights ps ++ flights qs
flights_append [] qs = refl
flights_append (p ∷ ps) qs =
    ap (λ (l : List Flight). spread p 0 (flits p) ++ l) (flights_append ps qs) ∙ sym (append_assoc (spread p 0 (flits p)) (flights ps) (flights qs))

length_spread : (p : Passage) (k n : ℕ) → length (spread p k n) ≡ n
length_spread p k zero = refl
length_spread p k (suc n) = ap suc (length_spread p (suc k) n)

abbrev pub none : Flight
none = record { sent = []; arrives = []; part = 0 }

abbrev pub at : Passage → ℕ → Flight
at p i = record { sent = p.sent; arrives = p.arrives; part = i }

get_or_spread : (p : Passage) (k n i : ℕ) → i < n → get_or (spread p k n) i none ≡ at p (k + i)
get_or_spread p k zero i h = absurd (omega arith)
get_or_spread p k (suc n) zero h = let e : k ≡ k + 0 = omega arith in ap (at p) e
get_or_spread p k (suc n) (suc i) h = let e : suc k + i ≡ k + suc i = omega arith in get_or_spread p (suc k) n i (omega arith) ∙ ap (at p) e

pub length_arriving : (ps : List Passage) → Sized ps → length (arriving ps) ≡ length (flights ps) * 64
length_arriving [] h = refl
length_arriving (p ∷ ps) h =
    let ih = length_arriving ps h.2 in
    let a = length-append (spread p 0 (flits p)) (flights ps) in
    let b = length_spread p 0 (flits p) in
    length-append p.arrives (arriving ps) ∙ omega (arith, h.0)

-- where flit number i of a wire is
pub record Located (ps : List Passage) (i : ℕ) : Type 0 where
  pub before : List Passage
  pub unit : Passage
  pub after' : List Passage
  pub part : ℕ
  pub among : ps ≡ before ++ (unit ∷ after')
  pub place : length (arriving before) + part * 64 ≡ i * 64
  pub flight : get_or (flights ps) i none ≡ at unit part
  pub bytes : flit_at (arriving ps) i ≡ flit_at unit.arrives part

pub locate : (ps : List Passage) (i : ℕ) → Sized ps → i < length (flights ps) → Located ps i
locate [] i s h = absurd (omega arith)
locate (p ∷ ps) i s h = go (dec_lt i (flits p)) (λ k. locate ps (i - flits p) s.2 (shorter k))
  where
    len : length (spread p 0 (flits p)) ≡ flits p
    len = length_spread p 0 (flits p)

    shorter : ¬ (i < flits p) → i - flits p < length (flights ps)
    shorter k = omega (arith, len, length-append (spread p 0 (flits p)) (flights ps))

    go : Dec (i < flits p) → (¬ (i < flits p) → Located ps (i - flits p)) → Located (p ∷ ps) i
    go (yes a) ih =
        record {
          before = [];
          unit = p;
          after' = ps;
          part = i;
          among = refl;
          place = omega arith;
          flight =
              get_or-append (spread p 0 (flits p)) (flights ps) none i (omega (arith, len)) ∙ get_or_spread p 0 (flits p) i a ∙ ap (at p) (zero_on i);
          bytes = flit_append_left p.arrives (arriving ps) i (omega (arith, s.0));
        }
      where
        zero_on : (n : ℕ) → 0 + n ≡ n
        zero_on n = omega arith
    go (no a) ih =
        let r = ih a in
        let e : length (spread p 0 (flits p)) + (i - flits p) ≡ i = omega (arith, len) in
        let e' : flits p + (i - flits p) ≡ i = omega arith in
        record {
          before = p ∷ r.before;
          unit = r.unit;
          after' = r.after';
          part = r.part;
          among = ap (λ (l : List Passage). p ∷ l) r.among;
          place = omega (arith, length-append p.arrives (arriving r.before), r.place, s.0);
          flight =
              ap (λ (n : ℕ). get_or (spread p 0 (flits p) ++ flights ps) n none) (sym e)
              ∙ get_or-append-add (spread p 0 (flits p)) (flights ps) (i - flits p) none
              ∙ r.flight;
          bytes =
              ap (flit_at (p.arrives ++ arriving ps)) (sym e') ∙ flit_append_right p.arrives (arriving ps) (flits p) (i - flits p) s.0 ∙ r.bytes;
        }

-- ---- the units that end among some flits

abbrev pub sents : List Flight → List (List ℕ)
sents [] = []
sents (y ∷ ys) = cond (ends_unit y) (y.sent ∷ sents ys) (sents ys)

cond_append : (b : Bool) (x : List ℕ) (u v : List (List ℕ)) → cond b (x ∷ (u ++ v)) (u ++ v) ≡ cond b (x ∷ u) u ++ v
cond_append true x u v = refl
cond_append false x u v = refl

pub sents_append : (xs ys : List Flight) → sents (xs ++ ys) ≡ sents xs ++ sents ys
sents_append [] ys = refl
sents_append (x ∷ xs) ys =
    ap (λ (l : List (List ℕ)). cond (ends_unit x) (x.sent ∷ l) l) (sents_append xs ys) ∙ cond_append (ends_unit x) x.sent (sents xs) (sents ys)

module _ (p : Passage) (size : length p.arrives ≡ flits p * 64) where
  not_last : (k : ℕ) → suc k < flits p → ends_unit (at p k) ≡ false
  unfolding ends_unit
  not_last k h = simp (ne_eqb (suc k * 64) (length p.arrives) (λ z. omega arith))

  is_last : (k : ℕ) → suc k ≡ flits p → ends_unit (at p k) ≡ is_unit p.sent
  unfolding ends_unit
  is_last k h = simp (eq-eqb (suc k * 64) (length p.arrives) (omega arith))

  spread_open : (k n t : ℕ) → k + n ≡ flits p → t < n → sents (take t (spread p k n)) ≡ []
  spread_open k zero t e h = absurd (omega arith)
  spread_open k (suc n) zero e h = refl
  spread_open k (suc n) (suc t) e h = simp (not_last k (omega arith)) (spread_open (suc k) n t (omega arith) (omega arith))

  spread_all : (k n : ℕ) → k + suc n ≡ flits p → sents (spread p k (suc n)) ≡ cond (is_unit p.sent) (p.sent ∷ []) []
  spread_all k zero e = simp (is_last k (omega arith))
  spread_all k (suc n) e = simp (not_last k (omega arith)) (spread_all (suc k) n (omega arith))

  spread_whole : 1 ≤ flits p → sents (spread p 0 (flits p)) ≡ cond (is_unit p.sent) (p.sent ∷ []) []
  spread_whole h =
      let e : suc (flits p - 1) ≡ flits p = omega arith in
      ap (λ (n : ℕ). sents (spread p 0 n)) (sym e) ∙ spread_all 0 (flits p - 1) (omega arith)

cond_front : (b : Bool) (x : List ℕ) (l : List (List ℕ)) → cond b (x ∷ []) [] ++ l ≡ cond b (x ∷ l) l
cond_front true x l = refl
cond_front false x l = refl

pub arrived_sents : (t : ℕ) (ps : List Passage) → Sized ps → arrived_units t ps ≡ sents (take t (flights ps))
unfolding arrived_units
arrived_sents zero [] s = refl
arrived_sents (suc t) [] s = refl
arrived_sents t (p ∷ ps) s = go (dec_le (flits p) t) (arrived_sents (t - flits p) ps s.2)
  where
    len : length (spread p 0 (flits p)) ≡ flits p
    len = length_spread p 0 (flits p)

    go : Dec (flits p ≤ t) → arrived_units (t - flits p) ps ≡ sents (take (t - flits p) (flights ps))
        → cond (leb (flits p) t) (cond (is_unit p.sent) (p.sent ∷ arrived_units (t - flits p) ps) (arrived_units (t - flits p) ps)) []
        ≡ sents (take t (spread p 0 (flits p) ++ flights ps))
    go (yes a) ih =
        let e : length (spread p 0 (flits p)) + (t - flits p) ≡ t = omega (arith, len) in
        simp (le-leb (flits p) t a)
        (sym (cond_front (is_unit p.sent) p.sent (arrived_units (t - flits p) ps))
        ∙ ap₂ (λ (u v : List (List ℕ)). u ++ v) (sym (spread_whole p s.0 s.1)) ih
        ∙ sym (sents_append (spread p 0 (flits p)) (take (t - flits p) (flights ps)))
        ∙ ap sents (sym (take-append-add (spread p 0 (flits p)) (flights ps) (t - flits p)) ∙ ap (λ (n : ℕ). take n (spread p 0 (flits p) ++ flights ps)) e))
    go (no a) ih =
        simp (lt-leb (flits p) t (omega arith))
        (sym (spread_open p s.0 0 (flits p) t (omega arith) (omega arith))
        ∙ ap sents (sym (take-append-le t (spread p 0 (flits p)) (flights ps) (omega (arith, len)))))

-- ---- where nothing is altered

-- a unit that arrives as it was sent, as it is handed on
pub handed_is : (front x : List ℕ) → length x ≡ 64 → as_handed (front ++ x) ≡ front ++ bare_control x
unfolding as_handed
handed_is front x h =
    let e : length (front ++ x) - 64 ≡ length front = omega (arith, length-append front x) in
    ap (λ (n : ℕ). take n (front ++ x) ++ bare_control (drop n (front ++ x))) e
    ∙ ap₂ (λ (a b : List ℕ). a ++ bare_control b) (take_at front x (length front) refl) (drop_at front x (length front) refl)

pub closing_is : (got : List (List ℕ)) (b : List ℕ) (n k : ℕ) (st : Bool) (y : Flight) → ReadsControl got b n k st true y
    → as_handed y.sent ≡ joined got ++ b
closing_is got b n k st y h =
    ap as_handed (sym (h.whole ∙ h.same refl)) ∙ handed_is (joined got) (flit y) h.size ∙ ap (λ (x : List ℕ). joined got ++ x) (h.says refl).bare

abbrev pub handeds : List Flight → List (List ℕ)
handeds ys = map as_handed (sents ys)

pub units_along : (f : Stream) (c : Chain) (l : List Item) (ys : List Flight) → Wire most f c l → ReadsAll f c l ys → Straight c l
    → units (first f c.pos) ++ handeds ys ≡ units (first f (final c l).pos)
units_along f c [] [] w r s = append-nil (units (first f c.pos))
units_along f c [] (y ∷ ys) w r s = absurd r
units_along f c (x ∷ l) [] w r s = absurd r
units_along f c (x ∷ l) (y ∷ ys) w r s =
    on f c x.flit x.ok x.lo x.hi y w.0 r.0 s.0 s.1 ys ∙ units_along f (after c x) l ys w.1 r.1 s.2
  where
    on : (f : Stream) (c : Chain) (x : Flit) (ok : Bool) (lo hi : ℕ) (y : Flight)
        → Fits most f c (record { flit = x; ok = ok; lo = lo; hi = hi }) → Reads f c.got x ok y → ok ≡ true → Goes c x → (ys : List Flight)
        → units (first f c.pos) ++ handeds (y ∷ ys) ≡ units (first f (step c x lo hi).pos) ++ handeds ys
    on f c (part v) ok lo hi y w r o g ys = simp r.ends
    on f c (control b n k st) true lo hi y w r o g ys =
        let u : as_handed y.sent ≡ bytes_of (f c.pos) = closing_is c.got b n k st y r ∙ ap bytes_of (w.fit.same refl) in
        simp (r.ends, u)
        (sym (append_assoc (units (first f c.pos)) (bytes_of (f c.pos) ∷ []) (handeds ys))
        ∙ ap (λ (v : List (List ℕ)). v ++ handeds ys) (sym (units_append (first f c.pos) (f c.pos ∷ []))))
    on f c (control b n k st) false lo hi y w r o g ys = absurd (true≢false (sym o))
    on f c (idle k st n) ok lo hi y w r o g ys = simp r.ends
    on f c (replay na p n st t) ok lo hi y w r o g ys = simp (r.ends, g)
