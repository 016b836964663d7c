-- Receive keeps the invariant, and nothing sends an end down: an acknowledgement covers no more than was sent, since what is told of receiving
-- never passes what is wanted, and wanted never passes sent; and untold never passes 1,024, since no more than that is held.
use mathlib.Core.Path.{◌≡◌, refl, ap, sym, subst, ◌∙◌}
use mathlib.Core.Bool.{Bool, true, false}
use mathlib.Core.Logic.{◌≢◌}
use mathlib.Core.List.{List, [], ◌∷◌, ◌++◌}
use Prim.Native.Nat.{ℕ, suc, ◌+◌, ◌≤◌}
use native.Mathlib.Omega.{arith}
use lib.ListN.{length}
use Rattle.proof_model.proofs.Stream.{Bytes, Stream, owed, num, Item, part, control, idle, replay}
use Rattle.proof_model.proofs.End.{run, wait, Sender, End}
use Rattle.proof_model.proofs.Step
use Rattle.proof_model.proofs.Step.{item, Discard, more, enough, Acked, keeps, passes, nacked, Wrong, no_part, no_control, no_idle, no_replay, other_run, past_control, past_idle, past_replay, before_replay, over, Receive, holds, delivers, repeats, idling, damaged, replayed, ahead_run, ahead_wait, discards, falls}
use Rattle.proof_model.proofs.Num.{num_le}
use Rattle.proof_model.proofs.Chain.{Chain, after, final, Fits, Grows, grows, grow_told, step_hi, step_lo}
use Rattle.proof_model.proofs.Inv.{Local, Runs, At, Head, Inv}
use Rattle.proof_model.proofs.Ack.{Moves, stays, acked, again_moves, nacked_moves, discard_moves, tail_moves}

-- what a receive has to show
pub record Done (C : ℕ) (f g : Stream) (e e' : End) (d : Chain) : Type 0 where
  pub moves : Moves C f e.s e'.s
  pub told : num g e'.r.wanted + e.r.untold ≡ num g e.r.wanted + e'.r.untold
  pub head : Head g d e'

-- what it may use: d is where its wire begins, x the flit, f its own stream and g the sender's
pub record Given (C : ℕ) (f g : Stream) (e : End) (d : Chain) (x : Item) : Type 0 where
  pub own : Local C f e.s
  pub fits : Fits C g d x
  pub head : Head g d e
  pub limit : (after d x).told ≤ num f e.s.sent
  pub near : num g x.lo ≤ num g e.r.wanted
  pub room : num g x.hi + e.r.untold ≤ num g e.r.wanted + C

module _ (C : ℕ) (small : C ≤ 1024) (f g : Stream) where
  pub acked_at : {s t : Sender} {a : ℕ} → Acked f s a t → t.acked ≡ a
  acked_at (keeps o b n l d k e) = refl
  acked_at (passes o b n l d k e) = refl

  nacked_at : (na : Bool) (s : Sender) → (nacked na s).acked ≡ s.acked
  nacked_at false s = refl
  nacked_at true s = refl

  discard_at : {s t : Sender} → Discard s t → t.acked ≡ s.acked
  discard_at more = refl
  discard_at enough = refl

  runs : (e : End) (d : Chain) → Head g d e → e.r.mode ≡ run → Runs g d e.s.acked e.r
  runs e d h m = subst (At g d e.s.acked e.r) m h.at

  on_holds : (e : End) (d : Chain) (x : Bytes) (lo hi : ℕ) (ok : Bool) → Given C f g e d (item (part x) ok lo hi) → e.r.mode ≡ run
      → Done C f g e (record { s = e.s; r = Step.holding x e.r }) (after d (item (part x) ok lo hi))
  on_holds e d x lo hi ok v m =
      let r = runs e d v.head m in
      record {
        moves = stays C f v.own;
        told = refl;
        head =
            record {
              hi = omega arith;
              acked = v.head.acked;
              at =
                  rw m
                  (record {
                    pos = r.pos;
                    hold = ap (λ (l : List Bytes). l ++ (x ∷ [])) r.hold;
                    bit = r.bit;
                    owes = r.owes;
                    told = r.told;
                    behind = r.behind;
                  });
              out = v.head.out;
            };
      }

  on_delivers : (e : End) (d : Chain) (b : Bytes) (n k lo hi : ℕ) (st : Bool) (t : Sender) → Given C f g e d (item (control b n k st) true lo hi)
      → e.r.mode ≡ run → e.r.position ≡ e.r.wanted → Acked f e.s (e.s.acked + k) t
      → Done C f g e (record { s = t; r = Step.delivered b n st e.r }) (after d (item (control b n k st) true lo hi))
  on_delivers e d b n k lo hi st t v m p a =
      let r = runs e d v.head m in
      let w : e.r.wanted ≡ d.pos = cc in
      let q = v.fits.fit in
      let u : length e.r.hold ≡ owed g e.r.wanted = cc (r.hold, q.full, w) in
      let z : t.acked ≡ e.s.acked + k = acked_at a in
      let y : record { parts = e.r.hold; body = b; run = n } ≡ g e.r.wanted =
      ap (λ (l : List Bytes). record { parts = l; body = b; run = n }) r.hold ∙ q.same refl ∙ ap g (sym w) in
      record {
        moves = acked C f v.own a;
        told = omega arith;
        head =
            record {
              hi = omega arith;
              acked = omega arith;
              at =
                  rw m
                  (record {
                    pos = ap suc r.pos;
                    hold = refl;
                    bit = refl;
                    owes = q.run;
                    told = omega arith;
                    behind = omega arith;
                  });
              out = cc (v.head.out, y);
            };
      }

  on_repeats : (e : End) (d : Chain) (b : Bytes) (n k lo hi : ℕ) (st : Bool) (t : Sender) → Given C f g e d (item (control b n k st) true lo hi)
      → e.r.mode ≡ run → e.r.position ≢ e.r.wanted → Acked f e.s (e.s.acked + k) t
      → Done C f g e (record { s = t; r = Step.duplicate n st e.r }) (after d (item (control b n k st) true lo hi))
  on_repeats e d b n k lo hi st t v m p a =
      let r = runs e d v.head m in
      let q = v.fits.fit in
      let z : t.acked ≡ e.s.acked + k = acked_at a in
      record {
        moves = acked C f v.own a;
        told = refl;
        head =
            record {
              hi = omega arith;
              acked = omega arith;
              at =
                  rw m
                  (record {
                    pos = ap suc r.pos;
                    hold = refl;
                    bit = refl;
                    owes = q.run;
                    told = omega arith;
                    behind = omega arith;
                  });
              out = v.head.out;
            };
      }

  on_idling : (e : End) (d : Chain) (n k lo hi : ℕ) (st : Bool) (t : Sender) → Given C f g e d (item (idle k st n) true lo hi)
      → e.r.mode ≡ run → Acked f e.s (e.s.acked + k) t
      → Done C f g e (record { s = t; r = Step.idled st e.r }) (after d (item (idle k st n) true lo hi))
  on_idling e d n k lo hi st t v m a =
      let r = runs e d v.head m in
      let z : t.acked ≡ e.s.acked + k = acked_at a in
      record {
        moves = acked C f v.own a;
        told = refl;
        head =
            record {
              hi = omega arith;
              acked = omega arith;
              at = rw m (record { pos = r.pos; hold = r.hold; bit = refl; owes = r.owes; told = omega arith; behind = r.behind });
              out = v.head.out;
            };
      }

  -- the flit is passed over: the wire goes on, the receiver waits
  passed_over : (e e' : End) (d : Chain) (x : Item) → Given C f g e d x → Moves C f e.s e'.s → e'.s.acked ≡ e.s.acked
      → e'.r.mode ≡ wait → e'.r.wanted ≡ e.r.wanted → e'.r.untold ≡ e.r.untold → e'.r.out ≡ e.r.out → Done C f g e e' (after d x)
  passed_over e e' d x v mv a m w u o =
      let t : d.told ≤ (after d x).told = grow_told g d x.flit x.ok x.lo x.hi v.fits.fit in
      let h : (after d x).hi ≡ x.hi = step_hi d x.flit x.lo x.hi in
      record {
        moves = mv;
        told = rw (w, u);
        head = record { hi = omega arith; acked = omega arith; at = rw m tt; out = cc v.head.out };
      }

  on_replayed : (e : End) (d : Chain) (p n t lo hi : ℕ) (na st : Bool) (u : Sender) → Given C f g e d (item (replay na p n st t) true lo hi)
      → p ≤ e.r.wanted → Acked f e.s t u
      → Done C f g e (record { s = nacked na u; r = Step.placed run p n st e.r }) (after d (item (replay na p n st t) true lo hi))
  on_replayed e d p n t lo hi na st u v h a =
      let q = v.fits.fit in
      let z : (nacked na u).acked ≡ t = nacked_at na u ∙ acked_at a in
      record {
        moves = nacked_moves C f na (acked C f v.own a);
        told = refl;
        head =
            record {
              hi = omega arith;
              acked = omega arith;
              at = record { pos = refl; hold = refl; bit = refl; owes = q.run; told = z; behind = h };
              out = v.head.out;
            };
      }

  -- a replay that starts past what is wanted
  on_ahead : (e : End) (d : Chain) (p n t lo hi : ℕ) (na st : Bool) (s : Sender) → Given C f g e d (item (replay na p n st t) true lo hi)
      → Moves C f e.s s → s.acked ≡ t
      → Done C f g e (record { s = s; r = Step.placed wait p n st e.r }) (after d (item (replay na p n st t) true lo hi))
  on_ahead e d p n t lo hi na st s v mv z =
      record { moves = mv; told = refl; head = record { hi = omega arith; acked = omega arith; at = tt; out = v.head.out } }

  -- nothing sends it down
  pub no_wrong : (e : End) (d : Chain) (x : Item) → Given C f g e d x → Wrong f e x → ⊥
  no_wrong e d x v (no_part m h) = let r = runs e d v.head m in let q = v.fits.fit in h (cc (r.bit, q.bit), rw (r.hold, r.owes) q.room)
  no_wrong e d x v (no_control m h) = let r = runs e d v.head m in let q = v.fits.fit in h (cc (r.bit, q.bit), cc (r.hold, q.full, r.owes))
  no_wrong e d x v (no_idle m h) =
      let r = runs e d v.head m in
      let q = v.fits.fit.rest in
      h (cc (r.hold, q.none), cc (r.bit, q.bit, r.owes))
  no_wrong e d x v (no_replay m h) =
      let r = runs e d v.head m in
      let q = v.fits.fit.rest in
      h (cc (r.hold, q.none), cc (r.bit, q.bit, r.owes))
  no_wrong e d x v (other_run m h) = let r = runs e d v.head m in h (cc (v.fits.fit.run, r.owes))
  no_wrong e d x v (past_control m h) = let r = runs e d v.head m in omega arith
  no_wrong e d x v (past_idle m h) = let r = runs e d v.head m in omega arith
  no_wrong e d x v (past_replay h) = omega arith
  no_wrong e d x v (before_replay h) = let q = v.fits.fit in omega arith
  no_wrong e d x v (over m p h) =
      let r = runs e d v.head m in
      let q = v.fits.fit in
      let w : e.r.wanted ≡ d.pos = cc in
      let u : length e.r.hold ≡ owed g e.r.wanted = cc (r.hold, q.full, w) in
      let z : num g (suc e.r.wanted) ≤ num g x.hi = num_le g (suc e.r.wanted) x.hi (omega arith) in
      omega arith

  pub received : (e e' : End) (d : Chain) (x : Item) → Given C f g e d x → Receive f e x e' → Done C f g e e' (after d x)
  received e e' d x v (holds m h) = on_holds e d _ _ _ _ v m
  received e e' d x v (delivers m h p a) = on_delivers e d _ _ _ _ _ _ _ v m p a
  received e e' d x v (repeats m h p a) = on_repeats e d _ _ _ _ _ _ _ v m p a
  received e e' d x v (idling m h n a) = on_idling e d _ _ _ _ _ _ v m a
  received e e' d x v (damaged m) = passed_over e _ d _ v (again_moves C f (stays C f v.own)) refl refl refl refl refl
  received e e' d x v (replayed m h a) = on_replayed e d _ _ _ _ _ _ _ _ v h a
  received e e' d x v (ahead_run {na = na} {u = u} m h a) =
      on_ahead e d _ _ _ _ _ _ _ _ v (again_moves C f (nacked_moves C f na (acked C f v.own a))) (nacked_at na u ∙ acked_at a)
  received e e' d x v (ahead_wait {na = na} {u = u} m h a k) =
      on_ahead e d _ _ _ _ _ _ _ _ v (discard_moves C f (nacked_moves C f na (acked C f v.own a)) k) (discard_at k ∙ nacked_at na u ∙ acked_at a)
  received e e' d x v (discards m k) = passed_over e _ d x v (discard_moves C f (stays C f v.own) k) (discard_at k) m refl refl refl
  received e e' d x v (falls h) = absurd (no_wrong e d x v h)

  -- what the invariant gives to a receive: e takes x from the wire that p has sent on
  pub given : (e p : End) (l m : List Item) (c d : Chain) (x : Item) → Inv C f g e p l (x ∷ m) c d → Given C f g e d x
  given e p l m c d x i =
      let to_grows : Grows c (final c l) = grows C f c l i.to.wire in
      let from_grows : Grows (after d x) (final (after d x) m) = grows C g (after d x) m i.from.wire.1 in
      let h : (after d x).hi ≡ x.hi = step_hi d x.flit x.lo x.hi in
      let h' : (after d x).lo ≡ x.lo = step_lo d x.flit x.lo x.hi in
      let tt = i.to.tail in
      let th = i.to.head in
      let ft = i.from.tail in
      let y : num f p.r.wanted ≤ num f e.s.sent = num_le f p.r.wanted e.s.sent (omega arith) in
      let z : num g x.hi ≤ num g p.s.accepted = num_le g x.hi p.s.accepted (omega arith) in
      let y' : num g x.lo ≤ num g p.s.oldest = num_le g x.lo p.s.oldest (omega arith) in
      record { own = i.own; fits = i.from.wire.0; head = i.from.head; limit = omega arith; near = omega arith; room = omega arith }

  pub receive : (e e' p : End) (l m : List Item) (c d : Chain) (x : Item) → Inv C f g e p l (x ∷ m) c d → Receive f e x e'
      → Inv C f g e' p l m c (after d x)
  receive e e' p l m c d x i s =
      let q = received e e' d x (given e p l m c d x i) s in
      record {
        own = q.moves.good;
        other = i.other;
        to = record { wire = i.to.wire; tail = tail_moves C f g e e' (final c l) q.moves q.told i.to.tail; head = i.to.head };
        from = record { wire = i.from.wire.1; tail = i.from.tail; head = q.head };
      }
