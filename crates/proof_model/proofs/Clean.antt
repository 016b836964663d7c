-- Where nothing that an end has sent was altered: each replay starts where the wire stands, the other end never waits and asks for no
-- replay, and each unit that arrives is the one that is wanted.
use mathlib.Core.Path.{◌≡◌, refl, ap, sym, ◌∙◌}
use mathlib.Core.Bool.{Bool, true, false, true≢false}
use mathlib.Core.List.{List, [], ◌∷◌, ◌++◌}
use Prim.Native.Nat.{ℕ, suc, ◌≤◌}
use native.Mathlib.Omega.{arith}
use Rattle.proof_model.proofs.Stream.{Bytes, Stream, owed, some, Flit, Item, part, control, idle, replay}
use Rattle.proof_model.proofs.End.{run, no_wait, Sender, End}
use Rattle.proof_model.proofs.Step.{accept, item, carried, is_waiting, Send, replays, alone, burst, idles, Discard, more, enough, Acked, keeps, passes, nacked, Wrong, Receive, holds, delivers, repeats, idling, damaged, replayed, ahead_run, ahead_wait, discards, falls}
use Rattle.proof_model.proofs.Num.{num_of_le}
use Rattle.proof_model.proofs.Chain.{Chain, after, final, final_append}
use Rattle.proof_model.proofs.Inv.{Inv}
use Rattle.proof_model.proofs.Receive

abbrev pub Whole : Bool → Type 0
Whole b = b ≡ true

-- each flit is whole, and a replay starts where the wire stands
abbrev pub Goes : Chain → Flit → Type 0
Goes c (replay na p n st t) = p ≡ c.pos
Goes c _ = Unit {0}

abbrev pub Straight : Chain → List Item → Type 0
Straight c [] = Unit {0}
Straight c (x ∷ l) = (x.ok ≡ true) × Goes c x.flit × Straight (after c x) l

-- no replay flit asks for a replay
abbrev pub Asks : Flit → Type 0
Asks (replay na p n st t) = na ≡ false
Asks _ = Unit {0}

abbrev pub Silent : List Item → Type 0
Silent [] = Unit {0}
Silent (x ∷ l) = Asks x.flit × Silent l

straight_append : (c : Chain) (l m : List Item) → Straight c l → Straight (final c l) m → Straight c (l ++ m)
straight_append c [] m h k = k
straight_append c (x ∷ l) m h k = (h.0, h.1, straight_append (after c x) l m h.2 k)

silent_append : (l m : List Item) → Silent l → Silent m → Silent (l ++ m)
silent_append [] m h k = k
silent_append (x ∷ l) m h k = (h.0, silent_append l m h.1 k)

-- e sends on l, whose beginning is c; p takes from it, and sends on m
pub record Clean (e p : End) (l m : List Item) (c : Chain) : Type 0 where
  pub straight : Straight c l
  pub silent : Silent m
  pub mode : p.r.mode ≡ run
  pub next : p.r.position ≡ p.r.wanted
  pub here : c.pos ≡ p.r.wanted
  pub there : (final c l).pos ≡ e.s.cursor
  pub all : e.s.cursor ≡ e.s.sent

-- what a send of e puts on the wire
pub record Fresh (e' : End) (z : Chain) (b : List Item) : Type 0 where
  pub straight : Straight z b
  pub there : (final z b).pos ≡ e'.s.cursor
  pub all : e'.s.cursor ≡ e'.s.sent

carried_straight : (u : Bytes) (j lo hi n : ℕ) (ok : Bool) (st : Bool) (z : Chain) (xs : List Bytes) → ok ≡ true
    → Straight z (carried lo hi ok xs (item (control u n j st) ok lo hi ∷ []))
    × ((final z (carried lo hi ok xs (item (control u n j st) ok lo hi ∷ []))).pos ≡ suc z.pos)
carried_straight u j lo hi n ok st z [] h = ((h, tt, tt), refl)
carried_straight u j lo hi n ok st z (x ∷ xs) h =
    let q = carried_straight u j lo hi n ok st (after z (item (part x) ok lo hi)) xs h in
    ((h, tt, q.0), q.1)

freshly : (f g : Stream) (e e' : End) (z : Chain) (b : List Item) → z.pos ≡ e.s.cursor → e.s.cursor ≡ e.s.sent → Send Whole f g e b e'
    → Fresh e' z b
freshly f g e e' z b h k (replays x y m p) = record { straight = (x, sym h, (y, refl, tt)); there = refl; all = k }
freshly f g e e' z b h k (alone x m p room n un) = record { straight = (x, tt, tt); there = ap suc h; all = omega arith }
freshly f g e e' z b h k (burst i j b' xs x y m p room some un len s) =
    let q = carried_straight _ j _ _ _ b' _ (after z (item (idle i false (owed f e.s.cursor)) true e.s.oldest e.s.sent)) xs y in
    record { straight = (x, tt, q.0); there = q.1 ∙ ap suc h; all = omega arith }
freshly f g e e' z b h k (idles x m p un) = record { straight = (x, tt, tt); there = h; all = k }

-- what a send of p, which runs, puts on the other wire
carried_silent : (u : Bytes) (j lo hi n : ℕ) (ok : Bool) (st : Bool) (xs : List Bytes) → Silent (carried lo hi ok xs (item (control u n j st) ok lo hi ∷ []))
carried_silent u j lo hi n ok st [] = (tt, tt)
carried_silent u j lo hi n ok st (x ∷ xs) = (tt, carried_silent u j lo hi n ok st xs)

quietly : (B : Bool → Type 0) (f g : Stream) (p p' : End) (b : List Item) → p.r.mode ≡ run → Send B g f p b p' → Silent b
quietly B f g p p' b h (replays x y m q) = (ap is_waiting h, (ap is_waiting h, tt))
quietly B f g p p' b h (alone x m q room n un) = (tt, tt)
quietly B f g p p' b h (burst i j b' xs x y m q room some un len s) = (tt, carried_silent _ j _ _ _ b' _ xs)
quietly B f g p p' b h (idles x m q un) = (tt, tt)

-- a send changes nothing of what was received
pub record Same (e e' : End) : Type 0 where
  pub mode : e'.r.mode ≡ e.r.mode
  pub position : e'.r.position ≡ e.r.position
  pub wanted : e'.r.wanted ≡ e.r.wanted

same : (B : Bool → Type 0) (f g : Stream) (p p' : End) (b : List Item) → Send B f g p b p' → Same p p'
same B f g p p' b (replays x y m q) = record { mode = refl; position = refl; wanted = refl }
same B f g p p' b (alone x m q room n un) = record { mode = refl; position = refl; wanted = refl }
same B f g p p' b (burst i j b' xs x y m q room some un len s) = record { mode = refl; position = refl; wanted = refl }
same B f g p p' b (idles x m q un) = record { mode = refl; position = refl; wanted = refl }

-- a receive of e leaves the cursor where it is
pub record Stood (s t : Sender) : Type 0 where
  pub cursor : t.cursor ≡ s.cursor
  pub sent : t.sent ≡ s.sent

stood : {f : Stream} {s t : Sender} {a : ℕ} → s.cursor ≡ s.sent → Acked f s a t → Stood s t
stood h (keeps o b n l d k q) = record { cursor = refl; sent = refl }
stood {f = f} {s = s} h (passes o b n l d k q) = let y : o ≤ s.sent = num_of_le f o s.sent (omega arith) in absurd (omega arith)

stood_nacked : {s t : Sender} (na : Bool) → na ≡ false → Stood s t → Stood s (nacked na t)
stood_nacked false h k = k
stood_nacked true h k = absurd (true≢false h)

stood_discard : {s t v : Sender} → Stood s t → Discard t v → Stood s v
stood_discard k more = k
stood_discard k enough = record { cursor = k.cursor; sent = k.sent }

stands : (f : Stream) (e e' : End) (x : Item) → Asks x.flit → e.s.cursor ≡ e.s.sent → Receive f e x e' → Stood e.s e'.s
stands f e e' x a k (holds m h) = record { cursor = refl; sent = refl }
stands f e e' x a k (delivers m h p q) = stood k q
stands f e e' x a k (repeats m h p q) = stood k q
stands f e e' x a k (idling m h n q) = stood k q
stands f e e' x a k (damaged m) = record { cursor = refl; sent = refl }
stands f e e' x a k (replayed {na = na} m h q) = stood_nacked na a (stood k q)
stands f e e' x a k (ahead_run {na = na} m h q) = let z = stood_nacked na a (stood k q) in record { cursor = z.cursor; sent = z.sent }
stands f e e' x a k (ahead_wait {na = na} m h q d) = stood_discard (stood_nacked na a (stood k q)) d
stands f e e' x a k (discards m d) = stood_discard (record { cursor = refl; sent = refl }) d
stands f e e' x a k (falls h) = record { cursor = refl; sent = refl }

-- a receive of p keeps step with the wire
pub record Follows (p : End) (c : Chain) : Type 0 where
  pub mode : p.r.mode ≡ run
  pub next : p.r.position ≡ p.r.wanted
  pub here : c.pos ≡ p.r.wanted

follows : (g : Stream) (p p' : End) (c : Chain) (x : Item) → x.ok ≡ true → Goes c x.flit → Follows p c → ¬ Wrong g p x
    → Receive g p x p' → Follows p' (after c x)
follows g p p' c x o s h w (holds m q) = record { mode = h.mode; next = h.next; here = h.here }
follows g p p' c x o s h w (delivers m q e a) = record { mode = h.mode; next = ap suc h.next; here = ap suc h.here }
follows g p p' c x o s h w (repeats m q e a) = absurd (e h.next)
follows g p p' c x o s h w (idling m q n a) = record { mode = h.mode; next = h.next; here = h.here }
follows g p p' c x o s h w (damaged m) = absurd (true≢false (sym o))
follows g p p' c x o s h w (replayed m q a) = record { mode = refl; next = cc (s, h.here); here = cc (s, h.here) }
follows g p p' c x o s h w (ahead_run m q a) = let z = h.here in absurd (omega arith)
follows g p p' c x o s h w (ahead_wait m q a d) = absurd (no_wait h.mode m)
follows g p p' c x o s h w (discards m d) = absurd (no_wait h.mode m)
follows g p p' c x o s h w (falls q) = absurd (w q)

-- ---- it is kept: by the calls of the sender e, which takes from m
module _ (f g : Stream) (e p : End) (l m : List Item) (c : Chain) where
  pub sender_gives : Clean e p l m c → Clean (record { s = accept e.s; r = e.r }) p l m c
  sender_gives n =
      record { straight = n.straight; silent = n.silent; mode = n.mode; next = n.next; here = n.here; there = n.there; all = n.all }

  pub sender_sends : (e' : End) (b : List Item) → Send Whole f g e b e' → Clean e p l m c → Clean e' p (l ++ b) m c
  sender_sends e' b h n =
      let z = freshly f g e e' (final c l) b n.there n.all h in
      record {
        straight = straight_append c l b n.straight z.straight;
        silent = n.silent;
        mode = n.mode;
        next = n.next;
        here = n.here;
        there = rw (final_append c l b) z.there;
        all = z.all;
      }

  pub sender_takes : (e' : End) (x : Item) → Receive f e x e' → Clean e p l (x ∷ m) c → Clean e' p l m c
  sender_takes e' x h n =
      let z = stands f e e' x n.silent.0 n.all h in
      record {
        straight = n.straight;
        silent = n.silent.1;
        mode = n.mode;
        next = n.next;
        here = n.here;
        there = cc (n.there, z.cursor);
        all = cc (n.all, z.cursor, z.sent);
      }

-- ---- and by those of the receiver p, which sends on m
module _ (C : ℕ) (small : C ≤ 1024) (f g : Stream) (e p : End) (l m : List Item) (c : Chain) where
  pub receiver_gives : Clean e p l m c → Clean e (record { s = accept p.s; r = p.r }) l m c
  receiver_gives n =
      record { straight = n.straight; silent = n.silent; mode = n.mode; next = n.next; here = n.here; there = n.there; all = n.all }

  pub receiver_sends : (B : Bool → Type 0) (p' : End) (b : List Item) → Send B g f p b p' → Clean e p l m c → Clean e p' l (m ++ b) c
  receiver_sends B p' b h n =
      let z = same B g f p p' b h in
      record {
        straight = n.straight;
        silent = silent_append m b n.silent (quietly B f g p p' b n.mode h);
        mode = cc (n.mode, z.mode);
        next = cc (n.next, z.position, z.wanted);
        here = cc (n.here, z.wanted);
        there = n.there;
        all = n.all;
      }

  pub receiver_takes : (p' : End) (d : Chain) (x : Item) → Inv C g f p e m (x ∷ l) d c → Receive g p x p' → Clean e p (x ∷ l) m c
      → Clean e p' l m (after c x)
  receiver_takes p' d x i h n =
      let z =
      follows g p p' c x n.straight.0 n.straight.1 (record { mode = n.mode; next = n.next; here = n.here })
      (Receive.no_wrong C small g f p c x (Receive.given C small g f p e m l d c x i)) h in
      record {
        straight = n.straight.2;
        silent = n.silent;
        mode = z.mode;
        next = z.next;
        here = z.here;
        there = n.there;
        all = n.all;
      }
