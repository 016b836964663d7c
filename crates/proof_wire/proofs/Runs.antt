-- Any run of two fresh ends keeps the two systems side by side. The streams are what has been accepted at the end of the run, so that
-- nothing about them changes on the way.
use mathlib.Core.Path.{◌≡◌, refl, ap, ◌∙◌}
use mathlib.Core.Bool.{Bool, true, false, false≢true, cond}
use mathlib.Core.List.{List, [], ◌∷◌, ◌++◌}
use Prim.Native.Nat.{ℕ, ◌/◌}
use native.Mathlib.Omega.{arith}
use lib.ListN.{length, length-append, get_or-append}
use Rattle.std.specs.Prelude.{Result, Ok, Err}
use Rattle.crc.specs.Unit.{right}
use Rattle.end_state.specs.State.{fresh, start}
use Rattle.end_state.specs.declared.Refusal.{Refusal}
use Rattle.accept.specs.Accept as accept
use Rattle.proof_model.proofs.Stream.{Stream}
use Rattle.proof_model.proofs.End as link
use Rattle.proof_model.proofs.Begin.{zero_chain, begins}
use Rattle.proof_wire.specs.Damage.{Arrives, units_of}
use Rattle.proof_wire.specs.System.{Passage, System, Lent, fresh_side, begin, with_accepted, flits_sent, passing, on_the_way, Call, accepts, sends, receives, calls, turned, Event, of_a, of_b, step, run, Given, Takes, Fair}
use Rattle.proof_wire.specs.Theorem.{Unaltered}
use Rattle.proof_wire.proofs.Wrap.{most}
use Rattle.proof_wire.proofs.Sound.{fits_right}
use Rattle.proof_wire.proofs.Offer.{block_of}
use Rattle.proof_wire.proofs.Emits.{Oks}
use Rattle.proof_wire.proofs.Joint.{Kind, Agrees, Linked, Joint, flip, by_accepts, by_sends, by_receives}

-- what is known from the start of what will be
pub record Foreseen (x y : Bool) (f g : Stream) (s : System) : Type 0 where
  pub a : Agrees f s.a.accepted
  pub b : Agrees g s.b.accepted
  pub ab : x ≡ true → Unaltered s.ab.passages
  pub ba : y ≡ true → Unaltered s.ba.passages

turn : {x y : Bool} {f g : Stream} {s : System} → Foreseen x y f g s → Foreseen y x g f (turned s)
turn h = record { a = h.b; b = h.a; ab = h.ba; ba = h.ab }

unaltered_before : (ps qs : List Passage) → Unaltered (ps ++ qs) → Unaltered ps
unaltered_before [] qs h = tt
unaltered_before (p ∷ ps) qs h = (h.0, unaltered_before ps qs h.1)

unaltered_after : (ps qs : List Passage) → Unaltered (ps ++ qs) → Unaltered qs
unaltered_after [] qs h = h
unaltered_after (p ∷ ps) qs h = unaltered_after ps qs h.1

agrees_before : (f : Stream) (units : List (List ℕ)) (u : List ℕ) → Agrees f (units ++ (u ∷ [])) → Agrees f units
agrees_before f units u h i lt =
    h i (rw (length-append units (u ∷ [])) (omega arith)) ∙ ap block_of (get_or-append units (u ∷ []) [] i lt)

-- what is right was known to be right where nothing was altered
oks : (x : Bool) (ps : List Passage) → (x ≡ true → Unaltered ps) → Oks (Kind x) ps
oks x [] h = tt
oks true (p ∷ ps) h = ((λ r. ap right (h refl).0 ∙ r), oks true ps (λ t. (h t).1))
oks false (p ∷ ps) h = ((λ r. tt), oks false ps (λ t. absurd (false≢true t)))

-- ---- a call

agrees_offer : (f : Stream) (v : Result (Unit {0}) Refusal) (units : List (List ℕ)) (u : List ℕ) → Agrees f (with_accepted v units u) → Agrees f units
agrees_offer f (Err r) units u h = h
agrees_offer f (Ok v) units u h = agrees_before f units u h

cond_same : (b : Bool) (s t : System) (x y : Bool) (f g : Stream) → Foreseen x y f g (cond b s t)
    → (Foreseen x y f g s → Foreseen x y f g t) → Foreseen x y f g t
cond_same true s t x y f g h k = k h
cond_same false s t x y f g h k = h

earlier_call : (x y : Bool) (f g : Stream) (c : Call) (s : System) → Foreseen x y f g (calls c s) → Foreseen x y f g s
earlier_call x y f g (accepts unit) s h =
    record { a = agrees_offer f (accept.accept s.a.end s.a.store unit).answer s.a.accepted unit h.a; b = h.b; ab = h.ab; ba = h.ba }
earlier_call x y f g (sends errors information output arrivals) s h =
    record { a = h.a; b = h.b; ab = λ t. unaltered_before s.ab.passages (passing (units_of (flits_sent errors information output s.a)) arrivals) (h.ab t); ba = h.ba }
earlier_call x y f g receives s h =
    cond_same (on_the_way s.ba) _ s x y f g h (λ k. record { a = k.a; b = k.b; ab = k.ab; ba = k.ba })

one_call : (x y : Bool) (f g : Stream) (c : Call) (s : System) → Joint x y f g s → Given Arrives c s → Foreseen x y f g (calls c s) → Joint x y f g (calls c s)
one_call x y f g (accepts unit) s j t h = by_accepts x y f g s j unit t h.a
one_call x y f g (sends errors information output arrivals) s j t h =
    by_sends x y f g s j errors information output arrivals t.0 t.1 t.2
    (oks x (passing (units_of (flits_sent errors information output s.a)) arrivals)
    (λ u. unaltered_after s.ab.passages (passing (units_of (flits_sent errors information output s.a)) arrivals) (h.ab u)))
one_call x y f g receives s j t h = by_receives x y f g s j

-- ---- an event

earlier : (x y : Bool) (f g : Stream) (v : Event) (s : System) → Foreseen x y f g (step v s) → Foreseen x y f g s
earlier x y f g (of_a c) s h = earlier_call x y f g c s h
earlier x y f g (of_b c) s h = turn (earlier_call y x g f c (turned s) (turn h))

one : (x y : Bool) (f g : Stream) (v : Event) (s : System) → Joint x y f g s → Takes Arrives v s → Foreseen x y f g (step v s) → Joint x y f g (step v s)
one x y f g (of_a c) s j t h = one_call x y f g c s j t h
one x y f g (of_b c) s j t h = flip (one_call y x g f c (turned s) (flip j) t (turn h))

-- ---- a run

before : (x y : Bool) (f g : Stream) (vs : List Event) (s : System) → Foreseen x y f g (run vs s) → Foreseen x y f g s
before x y f g [] s h = h
before x y f g (v ∷ vs) s h = earlier x y f g v s (before x y f g vs (step v s) h)

pub runs : (x y : Bool) (f g : Stream) (vs : List Event) (s : System) → Joint x y f g s → Fair vs s → Foreseen x y f g (run vs s) → Joint x y f g (run vs s)
runs x y f g [] s j t h = j
runs x y f g (v ∷ vs) s j t h =
    runs x y f g vs (step v s) (one x y f g v s j t.0 (before x y f g vs (step v s) h)) t.1 h

-- ---- the beginning

made : (store hold : List ℕ) (h : Lent store hold) → (start (length store)).end ≡ fresh h.capacity
unfolding start
made store hold h =
    let e : length store / 64 ≡ h.capacity = omega (arith, h.size) in
    simp (fits_right (length store) h.capacity h.least h.most h.size, e)

fresh_linked : (f g : Stream) (store hold : List ℕ) → Lent store hold → Linked f g link.fresh (fresh_side store hold)
unfolding link.fresh fresh
fresh_linked f g store hold h =
    rw (made store hold h)
    (record {
      stands =
          record {
            least = h.least;
            most = h.most;
            size = h.size;
            room = omega arith;
            base = refl;
            acked = refl;
            cursor = refl;
            sent = refl;
            held = refl;
            kept = refl;
            pending = refl;
            first = omega (arith, h.least);
            ring = λ i k a b c. absurd (omega arith);
          };
      kept =
          record {
            mode = refl;
            wanted = refl;
            position = refl;
            owes = refl;
            stalled = refl;
            gathered = refl;
            untold = refl;
            discards = omega arith;
            held = refl;
            size = h.hold_size;
            out = refl;
          };
      count = refl;
      formed = λ i lt. absurd (omega arith);
      as_bytes = λ i lt. absurd (omega arith);
      tidy = record { waits = λ z. refl; owes = omega arith };
    })

pub begin_joint : (x y : Bool) (f g : Stream) (store hold store' hold' : List ℕ) → Lent store hold → Lent store' hold'
    → Joint x y f g (begin store hold store' hold')
unfolding link.fresh zero_chain
begin_joint x y f g store hold store' hold' h h' =
    record {
      e = link.fresh;
      p = link.fresh;
      l = [];
      m = [];
      c = zero_chain;
      d = zero_chain;
      inv = begins most f g;
      left = fresh_linked f g store hold h;
      right_end = fresh_linked g f store' hold' h';
      there = record { sized = tt; le = omega arith; reads = tt };
      here = record { sized = tt; le = omega arith; reads = tt };
      clean = λ t. record { straight = tt; silent = tt; mode = refl; next = refl; here = refl; there = refl; all = refl };
      clean' = λ t. record { straight = tt; silent = tt; mode = refl; next = refl; here = refl; there = refl; all = refl };
      log = λ t. refl;
      log' = λ t. refl;
    }
