-- Send and accept keep the invariant: what a send puts on the wire fits where the wire ends, and leaves it at the cursor.
use mathlib.Core.Path.{◌≡◌, refl, ap, sym, ◌∙◌}
use mathlib.Core.Bool.{Bool, true, false}
use mathlib.Core.List.{List, [], ◌∷◌, ◌++◌, append_assoc, append-nil}
use Prim.Native.Nat.{ℕ, suc, ◌+◌, ◌-◌, ◌≤◌, ◌<◌, max}
use native.Mathlib.Omega.{arith}
use native.Mathlib.Decide.{dec_lt}
use lib.ListN.{length, length-append}
use Rattle.proof_model.proofs.Stream.{Bytes, Stream, owed, num, some, Item, part, control, idle}
use Rattle.proof_model.proofs.End.{Mode, run, wait, down, Sender, Receiver, End}
use Rattle.proof_model.proofs.Step.{item, accept, Room, tell, told, moved, carried, Send, replays, alone, burst, idles}
use Rattle.proof_model.proofs.Num.{num_le}
use Rattle.proof_model.proofs.Chain.{Chain, after, final, Wire, final_append, wire_append}
use Rattle.proof_model.proofs.Inv.{Local, At, Tail, Head, Inv}

-- what a burst has to show: z is where the wire ended before it
pub record Sent (C : ℕ) (f g : Stream) (e' : End) (z : Chain) (b : List Item) : Type 0 where
  pub good : Local C f e'.s
  pub wire : Wire C f z b
  pub tail : Tail f g e' (final z b)

-- a unit ends the wire
pub record Ends (f : Stream) (u t lo hi : ℕ) (c : Chain) : Type 0 where
  pub pos : c.pos ≡ suc u
  pub none : c.got ≡ []
  pub bit : c.stalled ≡ some (f u).run
  pub told : c.told ≡ t
  pub low : c.lo ≡ lo
  pub high : c.hi ≡ hi

no_parts : (xs : List Bytes) → length xs ≡ 0 → [] ≡ xs
no_parts [] h = refl
no_parts (x ∷ xs) h = absurd (omega arith)

module _ (C : ℕ) (f : Stream) (u j lo hi : ℕ) (ok : Bool) (above : lo ≤ u) (below : u < hi) (span : num f hi ≤ num f lo + C) where
  last : List Item
  last = item (control (f u).body (f u).run j (some (f u).run)) ok lo hi ∷ []

  carries : (z : Chain) (xs : List Bytes) → z.pos ≡ u → z.stalled ≡ false → length z.got + length xs ≡ owed f u
      → (ok ≡ true → z.got ++ xs ≡ (f u).parts) → z.lo ≤ lo → z.hi ≤ hi
      → Wire C f z (carried lo hi ok xs last) × Ends f u (z.told + j) lo hi (final z (carried lo hi ok xs last))
  unfolding last
  carries z [] p b n s l h = (
    (
      record {
        fit =
            record {
              bit = b;
              full = rw p (omega arith);
              same = λ t. rw p (rw (sym (append-nil z.got) ∙ s t) refl);
              run = cc p;
              next = refl;
              above = omega arith;
              below = omega arith;
            };
        lo = l;
        hi = h;
        span = span;
      },
      tt,
    ),
    record { pos = ap suc p; none = refl; bit = refl; told = refl; low = refl; high = refl },
  )
  carries z (x ∷ xs) p b n s l h =
      let z' : Chain = after z (item (part x) ok lo hi) in
      let q = carries z' xs p b (simp length-append (omega arith)) (λ t. append_assoc z.got (x ∷ []) xs ∙ s t) (omega arith) (omega arith) in
      ((record { fit = record { bit = b; room = rw p (omega arith) }; lo = l; hi = h; span = span }, q.0), q.1)

module _ (C : ℕ) (f g : Stream) where
  -- a unit goes out: z is where the wire ends just before its first flit
  unit_out : (e : End) (z : Chain) (k j n hi : ℕ) (ok : Bool) (xs : List Bytes) → n ≡ k + j → Local C f e.s → e.s.cursor < e.s.accepted
      → hi ≡ max e.s.sent (suc e.s.cursor) → z.pos ≡ e.s.cursor → z.got ≡ [] → z.stalled ≡ false → length xs ≡ owed f e.s.cursor
      → (ok ≡ true → xs ≡ (f e.s.cursor).parts) → z.lo ≤ e.s.oldest → z.hi ≤ e.s.sent → n ≤ e.r.untold
      → z.told + (e.r.untold - k) ≡ num g e.r.wanted
      → Sent C f g (record { s = moved e.s; r = tell n e.r }) z
      (carried e.s.oldest hi ok xs
      (item (control (f e.s.cursor).body (f e.s.cursor).run j (some (f e.s.cursor).run)) ok e.s.oldest hi ∷ []))
  unfolding last
  unit_out e z k j n hi ok xs nn o room top p em b len s lo h un t =
      let a : num f hi ≤ num f e.s.accepted = num_le f hi e.s.accepted (omega arith) in
      let v : num f e.s.sent ≤ num f hi = num_le f e.s.sent hi (omega arith) in
      let q =
      carries C f e.s.cursor j e.s.oldest hi ok o.begun (omega arith) (omega arith) z xs p b (rw em (omega arith)) (λ y. rw em (s y)) lo
      (omega arith) in
      let d = q.1 in
      record {
        good =
            record {
              begun = omega arith;
              behind = omega arith;
              given = omega arith;
              freed = o.freed;
              kept = o.kept;
              past = rw (sym top) (omega arith);
              fits = o.fits;
              cut = o.cut;
            };
        wire = q.0;
        tail =
            record {
              rest = record { none = d.none; bit = rw d.pos d.bit };
              place = λ y. d.pos;
              hi = omega arith;
              lo = omega arith;
              told = omega arith;
            };
      }

  -- the bounds that an idle or a replay flit carries
  span : (e : End) → Local C f e.s → num f e.s.sent ≤ num f e.s.oldest + C
  span e o = let a : num f e.s.sent ≤ num f e.s.accepted = num_le f e.s.sent e.s.accepted o.given in omega arith

  quiet : (s : Sender) → Local C f s → Local C f (told s)
  quiet s o =
      record { begun = o.begun; behind = o.behind; given = o.given; freed = o.freed; kept = o.kept; past = o.past; fits = o.fits; cut = o.cut }

  pub sends : (Ok : Bool → Type 0) (e e' : End) (z : Chain) (b : List Item) → Local C f e.s → Tail f g e z → Send Ok f g e b e'
      → Sent C f g e' z b
  sends Ok e e' z b o t (replays x y m h) =
      let w = span e o in
      record {
        good = quiet e.s o;
        wire = (
          record {
            fit = record { rest = t.rest; run = refl; next = refl; grows = omega arith; above = o.begun; below = o.behind };
            lo = t.lo;
            hi = t.hi;
            span = w;
          },
          (
            record {
              fit =
                  record {
                    rest = record { none = refl; bit = refl };
                    run = refl;
                    next = refl;
                    grows = omega arith;
                    above = o.begun;
                    below = o.behind;
                  };
              lo = omega arith;
              hi = omega arith;
              span = w;
            },
            tt,
          ),
        );
        tail =
            record { rest = record { none = refl; bit = refl }; place = λ q. refl; hi = omega arith; lo = omega arith; told = omega arith };
      }
  sends Ok e e' z b o t (alone {k = k} {a = a} x m h room n un) =
      let p = t.place h in
      let len : length (f e.s.cursor).parts ≡ owed f e.s.cursor = o.cut e.s.cursor room in
      let q : z.stalled ≡ false = t.rest.bit ∙ ap (λ (i : ℕ). some (owed f i)) p ∙ ap some n in
      let d =
      unit_out e z 0 k k (max e.s.sent (suc e.s.cursor)) a [] (omega arith) o room refl p t.rest.none q (omega arith)
      (λ y. no_parts _ (omega arith)) t.lo t.hi un (omega arith) in
      record { good = d.good; wire = d.wire; tail = d.tail }
  sends Ok e e' z b o t (burst k j {a = a} b' xs x y m h room some un len s) =
      let p = t.place h in
      let w = span e o in
      let d =
      unit_out e (after z (item (idle k false (owed f e.s.cursor)) a e.s.oldest e.s.sent)) k j (k + j)
      (max e.s.sent (suc e.s.cursor)) b' xs refl o room refl p t.rest.none refl len s (omega arith) (omega arith) un (omega arith) in
      record {
        good = d.good;
        wire = (record { fit = record { rest = t.rest; run = cc p }; lo = t.lo; hi = t.hi; span = w }, d.wire);
        tail = d.tail;
      }
  sends Ok e e' z b o t (idles {k = k} x m h un) =
      let p = t.place h in
      record {
        good = o;
        wire = (record { fit = record { rest = t.rest; run = cc p }; lo = t.lo; hi = t.hi; span = span e o }, tt);
        tail =
            record {
              rest = record { none = t.rest.none; bit = cc p };
              place = λ q. p;
              hi = omega arith;
              lo = omega arith;
              told = omega arith;
            };
      }

  -- a send tells nothing of what was received but how much of it is told
  tell_at : (c : Chain) (a k : ℕ) (r : Receiver) (m : Mode) → At g c a r m → At g c a (tell k r) m
  tell_at c a k r run h = record { pos = h.pos; hold = h.hold; bit = h.bit; owes = h.owes; told = h.told; behind = h.behind }
  tell_at c a k r wait h = tt
  tell_at c a k r down h = elim h [ ]

  still : (Ok : Bool → Type 0) (e e' : End) (d : Chain) (b : List Item) → Head g d e → Send Ok f g e b e' → Head g d e'
  still Ok e e' d b h (replays x y m p) =
      record { hi = h.hi; acked = h.acked; at = tell_at d e.s.acked e.r.untold e.r e.r.mode h.at; out = h.out }
  still Ok e e' d b h (alone {k = k} x m p room n un) =
      record { hi = h.hi; acked = h.acked; at = tell_at d e.s.acked k e.r e.r.mode h.at; out = h.out }
  still Ok e e' d b h (burst k j b' xs x y m p room some un len s) =
      record { hi = h.hi; acked = h.acked; at = tell_at d e.s.acked (k + j) e.r e.r.mode h.at; out = h.out }
  still Ok e e' d b h (idles {k = k} x m p un) =
      record { hi = h.hi; acked = h.acked; at = tell_at d e.s.acked k e.r e.r.mode h.at; out = h.out }

  pub send : (Ok : Bool → Type 0) (e e' p : End) (l m b : List Item) (c d : Chain) → Inv C f g e p l m c d → Send Ok f g e b e'
      → Inv C f g e' p (l ++ b) m c d
  send Ok e e' p l m b c d i s =
      let q = sends Ok e e' (final c l) b i.own i.to.tail s in
      record {
        own = q.good;
        other = i.other;
        to =
            record {
              wire = wire_append C f c l b i.to.wire q.wire;
              tail = rw (final_append c l b) q.tail;
              head = i.to.head;
            };
        from = record { wire = i.from.wire; tail = i.from.tail; head = still Ok e e' d b i.from.head s };
      }

  pub accepts : (e p : End) (l m : List Item) (c d : Chain) → Inv C f g e p l m c d → Room C f e.s
      → Inv C f g (record { s = accept e.s; r = e.r }) p l m c d
  accepts e p l m c d i h =
      let o = i.own in
      let t = i.to.tail in
      record {
        own =
            record {
              begun = o.begun;
              behind = o.behind;
              given = omega arith;
              freed = o.freed;
              kept = o.kept;
              past = o.past;
              fits = h.room;
              cut = λ j lt. cut j lt (dec_lt j e.s.accepted);
            };
        other = i.other;
        to = record { wire = i.to.wire; tail = record { rest = t.rest; place = t.place; hi = t.hi; lo = t.lo; told = t.told }; head = i.to.head };
        from =
            record {
              wire = i.from.wire;
              tail = i.from.tail;
              head = record { hi = i.from.head.hi; acked = i.from.head.acked; at = i.from.head.at; out = i.from.head.out };
            };
      }
    where
      cut : (j : ℕ) → j < suc e.s.accepted → Dec (j < e.s.accepted) → length (f j).parts ≡ owed f j
      cut j lt (yes q) = i.own.cut j q
      cut j lt (no q) = let z : j ≡ e.s.accepted = omega arith in rw z h.run
