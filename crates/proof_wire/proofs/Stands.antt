-- What the kept state of an end stands for: the sender's half of the abstract link, with a store whose places hold the accepted units.
-- Then what a walk over the held flits meets: on the border of each unit the data flits of that unit, and inside a unit no border. So
-- the last border among the oldest flits is where the unit begins in which they end.
use mathlib.Core.Path.{◌≡◌, refl, ap, ap₂, sym, subst, ◌∙◌}
use mathlib.Core.Bool.{Bool, true, false}
use mathlib.Core.List.{List, [], ◌∷◌, ◌++◌}
use Prim.Native.Nat.{ℕ, zero, suc, ◌+◌, ◌-◌, ◌*◌, ◌≤◌, ◌<◌}
use native.Mathlib.Omega.{arith}
use native.Mathlib.Nat.{add-zero}
use native.Mathlib.Decide.{dec_le}
use lib.ListN.{length, get_or}
use lib.Seq.{get_or-append-add}
use Rattle.flit_number.specs.Numbers.{width, difference}
use Rattle.crc.specs.Unit.{AllBytes}
use Rattle.flit_read.specs.Bytes.{read}
use Rattle.flit_read.specs.Fields.{content, run_length, acceptable, fields_of}
use Rattle.flit_write.proofs.RoundTrip.{acceptable_is}
use Rattle.end_state.specs.Ring.{flit_at, ring_place, stored, walk_begun, walk_over, walked}
use Rattle.end_state.specs.Refusals.{cursor_at, sent_at, acknowledged_at}
use Rattle.end_state.specs.Update.{with_cursor, with_pending}
use Rattle.end_state.specs.declared.End.{End}
use Rattle.end_state.specs.declared.walk.Walk.{Walk}
use Rattle.end_state.proofs.Walks.{inside, next_border}
use Rattle.receive_free.specs.Acknowledge.{last_border}
use Rattle.proof_model.proofs.Stream.{Block, Stream, owed, num}
use Rattle.proof_model.proofs.End.{Sender}
use Rattle.proof_model.proofs.Num.{num_le}
use Rattle.proof_model.proofs.Inv.{Local}
use Rattle.proof_wire.proofs.Pieces.{Flits, joined}
use Rattle.proof_wire.proofs.Wrap.{wrap, most, difference_up}

-- flit j of unit u
abbrev pub flit_of : Block → ℕ → List ℕ
flit_of u j = get_or (u.parts ++ (u.body ∷ [])) j []

-- a unit as accept takes it
pub record Taken (u : Block) : Type 0 where
  pub parts : Flits u.parts
  pub parts_bytes : AllBytes (joined u.parts)
  pub body : length u.body ≡ 64
  pub body_bytes : AllBytes u.body
  pub fair : acceptable u.body ≡ true
  pub run : read run_length (content u.body) ≡ u.run

abbrev pub Formed : Stream → ℕ → Type 0
Formed f t = (i : ℕ) → i < t → Taken (f i)

pub run_le : (u : Block) → Taken u → u.run ≤ 8
unfolding fields_of
run_le u h = let a = (acceptable_is u.body h.body h.body_bytes h.fair).run in let b = h.run in omega arith

pub owed_le : (f : Stream) (t i : ℕ) → Formed f t → i ≤ t → owed f i ≤ 8
owed_le f t zero h l = omega arith
owed_le f t (suc i) h l = run_le (f i) (h i l)

-- s is what the state q stands for
pub record Stands (f : Stream) (store : List ℕ) (s : Sender) (q : End) : Type 0 where
  pub least : 9 ≤ q.capacity.0
  pub most : q.capacity.0 ≤ most
  pub size : length store ≡ q.capacity.0 * 64
  pub room : q.held.0 ≤ q.capacity.0
  pub base : q.oldest.0 ≡ wrap (num f s.oldest)
  pub acked : q.acknowledged.0 ≡ wrap s.acked
  pub cursor : q.cursor.0 ≡ wrap (num f s.cursor)
  pub sent : q.sent.0 ≡ wrap (num f s.sent)
  pub held : num f s.oldest + q.held.0 ≡ num f s.accepted
  pub kept : q.kept.0 ≡ owed f s.oldest
  pub pending : q.pending ≡ s.pending
  pub first : q.first < q.capacity.0
  pub ring : (i j : ℕ) → s.oldest ≤ i → i < s.accepted → j ≤ owed f i
      → stored q store (num f i + j - num f s.oldest) ≡ flit_of (f i) j

-- what of a state it goes by: where only the rest moves, it stands for the same
pub record Sending : Type 0 where
  pub capacity : ℕ
  pub first : ℕ
  pub held : ℕ
  pub kept : ℕ
  pub oldest : ℕ
  pub cursor : ℕ
  pub sent : ℕ
  pub acknowledged : ℕ
  pub pending : Bool

abbrev pub sending : End → Sending
sending q =
    record {
      capacity = q.capacity.0;
      first = q.first;
      held = q.held.0;
      kept = q.kept.0;
      oldest = q.oldest.0;
      cursor = q.cursor.0;
      sent = q.sent.0;
      acknowledged = q.acknowledged.0;
      pending = q.pending;
    }

pub restand : (f : Stream) (store : List ℕ) (s : Sender) (p p' : End) → sending p' ≡ sending p → Stands f store s p → Stands f store s p'
restand f store s p p' z h =
    let capacity : p'.capacity.0 ≡ p.capacity.0 = ap (λ (v : Sending). v.capacity) z in
    let held : p'.held.0 ≡ p.held.0 = ap (λ (v : Sending). v.held) z in
    let first : p'.first ≡ p.first = ap (λ (v : Sending). v.first) z in
    record {
      least = rw capacity h.least;
      size = h.size ∙ ap (λ (c : ℕ). c * 64) (sym capacity);
      most = rw capacity h.most;
      room = rw (held, capacity) h.room;
      base = ap (λ (v : Sending). v.oldest) z ∙ h.base;
      acked = ap (λ (v : Sending). v.acknowledged) z ∙ h.acked;
      cursor = ap (λ (v : Sending). v.cursor) z ∙ h.cursor;
      sent = ap (λ (v : Sending). v.sent) z ∙ h.sent;
      held = rw held h.held;
      kept = ap (λ (v : Sending). v.kept) z ∙ h.kept;
      pending = ap (λ (v : Sending). v.pending) z ∙ h.pending;
      first = rw (first, capacity) h.first;
      ring = λ i j a b c. ap₂ (λ (n m : ℕ). flit_at store (ring_place n m (num f i + j - num f s.oldest))) capacity first ∙ h.ring i j a b c;
    }

-- only the cursor moves, and whether replay is pending
pub goes_on : (f : Stream) (store : List ℕ) (s : Sender) (q : End) (unit x : ℕ) (pending : Bool) → x ≡ wrap (num f unit) → Stands f store s q
    → Stands f store (record { accepted = s.accepted; oldest = s.oldest; cursor = unit; sent = s.sent; acked = s.acked; pending = pending })
    (with_cursor x (with_pending pending q))
goes_on f store s q unit x pending at h =
    record {
      least = h.least;
      size = h.size;
      most = h.most;
      room = h.room;
      base = h.base;
      acked = h.acked;
      cursor = at;
      sent = h.sent;
      held = h.held;
      kept = h.kept;
      pending = refl;
      first = h.first;
      ring = h.ring;
    }

-- on the border before a unit of n data flits
pub record AtBorder (w : Walk) (n : ℕ) : Type 0 where
  pub run : w.run ≡ n
  pub border : w.border ≡ true
  pub sound : w.sound ≡ true

module _ (f : Stream) (store : List ℕ) (s : Sender) (q : End) (l : Local most f s) (h : Stands f store s q) (fo : Formed f s.accepted) where
  -- flits from the oldest to unit i
  abbrev pub off : ℕ → ℕ
  off i = num f i - num f s.oldest

  old : s.oldest ≤ s.accepted
  old = omega (arith, l.begun, l.behind, l.given)

  pub kept_le : q.kept.0 ≤ 8
  kept_le = rw h.kept (owed_le f s.accepted s.oldest fo old)

  -- where the numbers are, counted from the oldest
  pub at_cursor : cursor_at q ≡ off s.cursor
  at_cursor =
      let a : num f s.oldest ≤ num f s.cursor = num_le f s.oldest s.cursor l.begun in
      let b : num f s.cursor ≤ num f s.accepted = num_le f s.cursor s.accepted (omega (arith, l.behind, l.given)) in
      ap₂ (difference width) h.cursor h.base ∙ difference_up width (num f s.cursor) (num f s.oldest) a (omega (arith, l.fits))

  pub at_sent : sent_at q ≡ off s.sent
  at_sent =
      let a : num f s.oldest ≤ num f s.sent = num_le f s.oldest s.sent (omega (arith, l.begun, l.behind)) in
      let b : num f s.sent ≤ num f s.accepted = num_le f s.sent s.accepted l.given in
      ap₂ (difference width) h.sent h.base ∙ difference_up width (num f s.sent) (num f s.oldest) a (omega (arith, l.fits))

  pub at_acknowledged : acknowledged_at q ≡ s.acked - num f s.oldest
  at_acknowledged =
      let b : num f s.sent ≤ num f s.accepted = num_le f s.sent s.accepted l.given in
      ap₂ (difference width) h.acked h.base
      ∙ difference_up width s.acked (num f s.oldest) l.freed (omega (arith, l.fits, l.past))

  -- the control flit of unit i
  pub body_at : (i : ℕ) → s.oldest ≤ i → i < s.accepted → stored q store (off i + owed f i) ≡ (f i).body
  body_at i a b =
      let z : num f s.oldest ≤ num f i = num_le f s.oldest i a in
      let e : off i + owed f i ≡ num f i + owed f i - num f s.oldest = omega arith in
      let k : owed f i ≡ length (f i).parts + 0 = omega (arith, l.cut i b) in
      ap (stored q store) e ∙ h.ring i (owed f i) a b (omega arith) ∙ ap (flit_of (f i)) k
      ∙ get_or-append-add (f i).parts ((f i).body ∷ []) 0 []

  -- a walk to the border of a unit
  walk_to : (k : ℕ) → s.oldest + k ≤ s.accepted → AtBorder (walked q store (off (s.oldest + k))) (owed f (s.oldest + k))
  unfolding walk_over walk_begun
  walk_to zero le =
      let e : s.oldest + 0 ≡ s.oldest = omega arith in
      let z : num f s.oldest - num f s.oldest ≡ 0 = omega arith in
      subst (λ (n : ℕ). AtBorder (walked q store (off n)) (owed f n)) (sym e)
      (subst (λ (n : ℕ). AtBorder (walked q store n) (owed f s.oldest)) (sym z) (record { run = h.kept; border = refl; sound = refl }))
  walk_to (suc k) le =
      let i = s.oldest + k in
      let w = walk_to k (omega arith) in
      let lt : i < s.accepted = omega arith in
      let z : num f s.oldest ≤ num f i = num_le f s.oldest i (omega arith) in
      let e : s.oldest + suc k ≡ suc i = omega arith in
      let c : stored q store (off i + (walked q store (off i)).run) ≡ (f i).body =
      ap (λ (n : ℕ). stored q store (off i + n)) w.run ∙ body_at i (omega arith) lt in
      let m : suc (off i + (walked q store (off i)).run) ≡ off (suc i) = omega (arith, w.run) in
      let b = next_border q store kept_le (off i) w.border in
      subst (λ (n : ℕ). AtBorder (walked q store (off n)) (owed f n)) (sym e)
      (subst (λ (n : ℕ). AtBorder (walked q store n) (owed f (suc i))) m
      (record {
        run = ap (λ (v : Walk). v.run) b ∙ ap (λ (x : List ℕ). read run_length (content x)) c ∙ (fo i lt).run;
        border = ap (λ (v : Walk). v.border) b;
        sound =
            ap (λ (v : Walk). v.sound) b
            ∙ simp (w.sound, c, (fo i lt).fair);
      }))

  pub walk_at : (i : ℕ) → s.oldest ≤ i → i ≤ s.accepted → AtBorder (walked q store (off i)) (owed f i)
  walk_at i a b =
      let e : s.oldest + (i - s.oldest) ≡ i = omega arith in
      subst (λ (n : ℕ). AtBorder (walked q store (off n)) (owed f n)) e (walk_to (i - s.oldest) (omega arith))

  -- the last border among the oldest flits
  abbrev borders : ℕ → ℕ
  borders n = last_border q.capacity.0 q.first (walk_begun q.kept.0) store n

  border_at : (n : ℕ) → (walked q store n).border ≡ true → borders n ≡ n
  unfolding last_border
  border_at zero b = refl
  border_at (suc n) b = simp b

  pub borders_in : (i j : ℕ) → s.oldest ≤ i → i ≤ s.accepted → j ≤ owed f i → borders (off i + j) ≡ off i
  unfolding last_border
  borders_in i zero a b c = ap borders (add-zero (off i)) ∙ border_at (off i) (walk_at i a b).border
  borders_in i (suc j) a b c =
      let w = walk_at i a b in
      let n = inside q store kept_le (off i) w.border (suc j) (rw w.run c) in
      let e : off i + suc j ≡ suc (off i + j) = omega arith in
      let fl : (walked q store (suc (off i + j))).border ≡ false = rw e at n.border (omega arith) in
      rw e (simp fl (borders_in i j a b (omega arith)))

-- the unit in which a flit lies
pub record Within (f : Stream) (i a : ℕ) : Type 0 where
  pub unit : ℕ
  pub least : i ≤ unit
  pub begins : num f unit ≤ a
  pub ends : a < num f (suc unit)

pub unit_of : (f : Stream) (i a : ℕ) → num f i ≤ a → Within f i a
unit_of f i a h = go (a - num f i) i h (omega arith)
  where
    go : (k i : ℕ) → num f i ≤ a → a ≤ num f i + k → Within f i a
    go zero i b c = record { unit = i; least = omega arith; begins = b; ends = omega arith }
    go (suc k) i b c = on (dec_le (num f (suc i)) a) (go k (suc i))
      where
        on : Dec (num f (suc i) ≤ a) → (num f (suc i) ≤ a → a ≤ num f (suc i) + k → Within f (suc i) a) → Within f i a
        on (yes p) ih =
            let r = ih p (omega arith) in
            record { unit = r.unit; least = omega (arith, r.least); begins = r.begins; ends = r.ends }
        on (no p) ih = record { unit = i; least = omega arith; begins = b; ends = omega arith }
