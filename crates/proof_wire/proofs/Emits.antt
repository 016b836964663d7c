-- Send on bytes does what the abstract send does, whatever becomes of its units on the way.
use mathlib.Core.Path.{◌≡◌, refl, ap, ap₂, sym, subst, ◌∙◌}
use mathlib.Core.Bool.{Bool, true, false, cond}
use mathlib.Core.Logic.{◌≢◌}
use mathlib.Core.List.{List, [], ◌∷◌, ◌++◌, append-nil}
use Prim.Native.Nat.{ℕ, zero, suc, ◌+◌, ◌-◌, ◌*◌, ◌/◌, ◌^◌, ◌≤◌, ◌<◌, max}
use native.Mathlib.Nat.{mod-lt}
use native.Mathlib.Omega.{arith}
use native.Mathlib.Decide.{dec_lt}
use borrow.Author.Tests.{lt-ltb, le-ltb, leb-true, leb-false}
use lib.Dec.{ltb, leb}
use lib.Pow.{pow_pos}
use lib.ListN.{length, take, get_or, length-append, get_or-append, drop_of_length-le}
use lib.Seq.{take-length, take-suc, take_at, drop_at, take_all}
use Rattle.flit_number.specs.Numbers.{width, after, acknowledge_for}
use Rattle.flit_number.proofs.Laws.{difference_lt}
use Rattle.crc.specs.Unit.{right}
use Rattle.crc.specs.Seal.{sealed}
use Rattle.flit_read.specs.Bytes.{read}
use Rattle.flit_read.specs.Fields.{fields_of, content, run_length}
use Rattle.flit_write.specs.Flits.{control_told, idle_flit, replay_flit}
use Rattle.flit_write.proofs.RoundTrip.{idle_read, replay_read}
use Rattle.end_state.specs.Ring.{flit_at, ring_place, stored, walked}
use Rattle.end_state.specs.State.{is_wait}
use Rattle.end_state.specs.Refusals.{cursor_at, sent_at, previous_run}
use Rattle.end_state.specs.Update.{with_untold, with_pending}
use Rattle.end_state.specs.declared.End.{End as KeptEnd}
use Rattle.std.proofs.lemmas.Bool.{cond_both}
use Rattle.send_state.specs.Moves as sending
use Rattle.send_unit.specs.Units.{stored_flits, control_at_cursor, unit_sent}
use Rattle.send_state.specs.Moves.{fallen, unit_at_cursor, past_unit}
use Rattle.send_replay.specs.Replays.{replay_sent}
use Rattle.send_burst.specs.Burst.{burst, burst_flits}
use Rattle.proof_model.proofs.Stream.{Block, Stream, owed, num, some, Item, control, idle, replay}
use Rattle.proof_model.proofs.End.{Mode, run, wait, down, End}
use Rattle.proof_model.proofs.Step
use Rattle.proof_model.proofs.Step.{item, is_waiting, tell, told, Send, replays, alone, idles}
use Rattle.proof_model.proofs.Num.{num_le, num_lt}
use Rattle.proof_model.proofs.Chain.{Chain, after as chain_after}
use Rattle.proof_model.proofs.Inv.{Local, Tail}
use Rattle.proof_wire.specs.Damage.{Arrives, one, units_of}
use Rattle.proof_wire.specs.System.{Passage, passing, ArriveAll}
use Rattle.proof_wire.proofs.Pieces.{joined, joined_snoc}
use Rattle.proof_wire.proofs.Wrap.{meaning, wrap, most, after_wrap}
use Rattle.proof_wire.proofs.Stands.{restand, goes_on, Stands, Taken, Formed, owed_le, at_cursor, at_sent, walk_at, body_at}
use Rattle.proof_wire.proofs.Says.{SaysControl, ReadsAll, mode_of, Kept}
use Rattle.proof_wire.proofs.Makes.{spread, flights, flits, Sized, pieces, length_pieces, damage_size, right_same, unit_reads, made_size, made_bytes, made_right, made_says, made_parts, made_alone, made_no_replay, made_unit, alone_reads, idle_comes, replay_of, replay_comes}

-- ---- a burst, by units

-- a list that is not empty is one unit
one_of : (xs : List ℕ) → 0 < length xs → one xs ≡ xs ∷ []
one_of [] h = absurd (omega arith)
one_of (x ∷ xs) h = refl

-- a flit that is a unit of its own, and what comes after it
pub units_two : (x y : List ℕ) → length x ≡ 64 → 8 < (fields_of x).run.0 → 0 < length y → units_of (x ++ y) ≡ x ∷ y ∷ []
unfolding units_of
units_two x y l r h =
    simp (take_at x y 64 l, drop_at x y 64 l, lt-ltb 8 (fields_of x).run.0 r, one_of x (omega arith), one_of y h)

pub units_dl : (x : List ℕ) → length x ≡ 64 → 8 < (fields_of x).run.0 → units_of x ≡ x ∷ []
unfolding units_of
units_dl x l r =
    let z : length x ≤ 64 = omega arith in
    simp (take_all 64 x z, drop_of_length-le x {i = 64} z, lt-ltb 8 (fields_of x).run.0 r, one_of x (omega arith))

pub units_tl : (x : List ℕ) → length x ≡ 64 → (fields_of x).run.0 ≤ 8 → units_of x ≡ x ∷ []
unfolding units_of
units_tl x l r =
    simp (take_all 64 x (omega arith), le-ltb 8 (fields_of x).run.0 r, one_of x (omega arith))

-- ---- small facts

some_test : (n : ℕ) → ltb 0 n ≡ some n
some_test zero = refl
some_test (suc n) = lt-ltb 0 (suc n) (omega arith)

wait_test : (m : Mode) → is_wait (mode_of m) ≡ is_waiting m
wait_test run = refl
wait_test wait = refl
wait_test down = refl

pub carried_le : (u : ℕ) → sending.carried u ≤ u
carried_le u = cond_both (leb u 31) u 31 (λ (n : ℕ). n ≤ u) (λ h. omega arith) (λ h. let z = leb-false u 31 h in omega arith)

pub carried_31 : (u : ℕ) → sending.carried u ≤ 31
carried_31 u = cond_both (leb u 31) u 31 (λ (n : ℕ). n ≤ 31) (λ h. leb-true u 31 h) (λ h. omega arith)

-- the flits that are stored in a row
row : (places first from : ℕ) (store : List ℕ) (xs : List (List ℕ)) (n : ℕ) → n ≤ length xs
    → ((j : ℕ) → j < length xs → flit_at store (ring_place places first (from + j)) ≡ get_or xs j [])
    → stored_flits places first store from n ≡ joined (take n xs)
unfolding stored_flits
row places first from store xs zero h k = refl
row places first from store xs (suc n) h k =
    ap₂ (λ (a b : List ℕ). a ++ b) (row places first from store xs n (omega arith) k) (k n h)
    ∙ sym (joined_snoc (take n xs) (get_or xs n [])) ∙ ap joined (sym (take-suc xs n [] h))

size_of : (v : List ℕ) (n : ℕ) → length v ≡ suc n * 64 → (length v ≡ length v / 64 * 64) × (1 ≤ length v / 64)
size_of v n h = (omega arith, omega arith)

-- what the environment may choose
abbrev pub Oks : (Bool → Type 0) → List Passage → Type 0
Oks Ok [] = Unit {0}
Oks Ok (p ∷ ps) = (right p.sent ≡ true → Ok (right p.arrives)) × Oks Ok ps

pub record Sends (Ok : Bool → Type 0) (f g : Stream) (store hold : List ℕ) (handed : List (List ℕ)) (e : End) (z : Chain) (ps : List Passage) (p : KeptEnd) : Type 0 where
  pub b : List Item
  pub e' : End
  pub does : Send Ok f g e b e'
  pub reads : ReadsAll f z b (flights ps)
  pub sized : Sized ps
  pub stands : Stands f store e'.s p
  pub kept : Kept g e'.r p hold handed

module _ (Ok : Bool → Type 0) (f g : Stream) (store hold : List ℕ) (handed : List (List ℕ)) (e : End) (q : KeptEnd) (l : Local most f e.s)
    (h : Stands f store e.s q) (k : Kept g e.r q hold handed) (fo : Formed f e.s.accepted) (z : Chain) (t : Tail f g e z)
    (live : e.r.mode ≢ down) (errors information : ℕ) (small_errors : errors < 256) (small_information : information < 2 ^ 64)
  where
    abbrev n : ℕ
    n = owed f e.s.cursor

    n≤ : n ≤ 8
    n≤ = owed_le f e.s.accepted e.s.cursor fo (omega (arith, l.behind, l.given))

    pub run_here : previous_run q store ≡ n
    run_here =
        ap (λ (i : ℕ). (walked q store i).run) (at_cursor f store e.s q l h fo)
        ∙ (walk_at f store e.s q l h fo e.s.cursor l.begun (omega (arith, l.behind, l.given))).run

    abbrev Goal : List Passage → KeptEnd → Type 0
    Goal ps p = Sends Ok f g store hold handed e z ps p

    -- only what is told moves in the receiver's half
    told_kept : (m : ℕ) (p : KeptEnd) → p.mode ≡ q.mode → p.wanted ≡ q.wanted → p.position ≡ q.position → p.owed ≡ q.owed → p.stalled ≡ q.stalled
        → p.gathered ≡ q.gathered → p.untold.0 ≡ e.r.untold - m → p.discards ≡ q.discards → Kept g (tell m e.r) p hold handed
    told_kept m p h1 h2 h3 h4 h5 h6 h7 h8 =
        record {
          mode = h1 ∙ k.mode;
          wanted = ap (λ v. v.0) h2 ∙ k.wanted;
          position = ap (λ v. v.0) h3 ∙ k.position;
          owes = ap (λ v. v.0) h4 ∙ k.owes;
          stalled = h5 ∙ k.stalled;
          gathered = ap (λ v. v.0) h6 ∙ k.gathered;
          untold = h7;
          discards = rw h8 k.discards;
          held = k.held;
          size = k.size;
          out = k.out;
        }

    -- ---- 1. two replay flits
    abbrev replay_here : List ℕ
    replay_here = replay_flit (replay_of f e.s.cursor n errors information (some n) (num g e.r.wanted) (is_waiting e.r.mode))

    replay_is : replay_sent q n errors information ≡ replay_here
    unfolding replay_sent
    replay_is i =
        replay_flit
        (record {
          information = information;
          previous = record { 0 = n };
          start = record { 0 = h.cursor i };
          last = record { 0 = acknowledge_for meaning width (k.wanted i) };
          errors = errors;
          stalled = some_test n i;
          nack = (ap is_wait k.mode ∙ wait_test e.r.mode) i;
        })

    replay_fields : (length replay_here ≡ 64) × (8 < (fields_of replay_here).run.0) × (right replay_here ≡ true)
    unfolding acknowledge_for
    replay_fields =
        let r =
        replay_read (replay_of f e.s.cursor n errors information (some n) (num g e.r.wanted) (is_waiting e.r.mode)) small_information
        (difference_lt width (wrap (num g e.r.wanted)) 1)
        (mod-lt (num f e.s.cursor) (pow_pos width)) (omega (arith, n≤)) small_errors in
        (r.size, omega (arith, r.is_replay), r.right_alone)

    told_stands : Stands f store (told e.s) (with_untold 0 (with_pending false q))
    told_stands = restand f store (told e.s) _ _ refl (goes_on f store e.s q e.s.cursor q.cursor.0 false h.cursor h)

    replay_size : (x : List ℕ) → Arrives replay_here x → length x ≡ 64
    replay_size x d = damage_size replay_here x d.damage ∙ replay_fields.0

    replay_one : (x : List ℕ) → Arrives replay_here x → (zz : Chain)
        → ReadsAll f zz (item (replay (is_waiting e.r.mode) e.s.cursor n (some n) (num g e.r.wanted)) (right x) e.s.oldest e.s.sent ∷ [])
        (spread (record { sent = replay_here; arrives = x }) 0 1)
    replay_one x d zz =
        replay_comes f zz e.s.oldest e.s.sent e.s.cursor n errors information (num g e.r.wanted) (is_waiting e.r.mode) (some n) x n≤ small_errors
        small_information d

    by_replays : e.s.pending ≡ true → (vs : List (List ℕ)) → ArriveAll Arrives (replay_here ∷ replay_here ∷ []) vs
        → Oks Ok (passing (replay_here ∷ replay_here ∷ []) vs)
        → Goal (passing (replay_here ∷ replay_here ∷ []) vs) (with_untold 0 (with_pending false q))
    by_replays p [] a o = elim a [ ]
    by_replays p (v ∷ []) a o = absurd a.1
    by_replays p (v ∷ w ∷ []) a o =
        record {
          b = _;
          e' = _;
          does = replays (o.0 replay_fields.2) (o.1.0 replay_fields.2) live p;
          reads =
              rw (
                alone_reads (record { sent = replay_here; arrives = v }) (replay_size v a.0),
                alone_reads (record { sent = replay_here; arrives = w }) (replay_size w a.1.0),
              )
              ((replay_one v a.0 z).0, replay_one w a.1.0 z);
          sized =
              let a' = size_of v 0 (replay_size v a.0) in
              let b' = size_of w 0 (replay_size w a.1.0) in
              (a'.0, a'.1, (b'.0, b'.1, tt));
          stands = told_stands;
          kept = told_kept e.r.untold _ refl refl refl refl refl refl (omega arith) refl;
        }
    by_replays p (v ∷ w ∷ u ∷ us) a o = absurd a.1.1

    -- ---- 3. an idle
    abbrev idle_here : ℕ → Bool → List ℕ
    idle_here a st = idle_flit a st n

    by_idles : e.s.pending ≡ false → (vs : List (List ℕ)) (a : ℕ) → a ≡ sending.carried e.r.untold → ArriveAll Arrives (idle_here a (some n) ∷ []) vs
        → Oks Ok (passing (idle_here a (some n) ∷ []) vs) → Goal (passing (idle_here a (some n) ∷ []) vs) (with_untold (q.untold.0 - a) q)
    by_idles p [] a e31 ar o = elim ar [ ]
    by_idles p (v ∷ []) a e31 ar o =
        let le = carried_31 e.r.untold in
        let r = idle_read a (some n) n (omega arith) (omega (arith, n≤)) in
        let un = carried_le e.r.untold in
        record {
          b = _;
          e' = _;
          does = idles {k = a} (o.0 r.right_alone) live p (omega arith);
          reads =
              rw (alone_reads (record { sent = idle_here a (some n); arrives = v }) (damage_size (idle_here a (some n)) v ar.0.damage ∙ r.size))
              (idle_comes f z e.s.oldest e.s.sent a n (some n) v (omega arith) n≤ ar.0);
          sized =
              let a' = size_of v 0 (damage_size (idle_here a (some n)) v ar.0.damage ∙ r.size) in
              (a'.0, a'.1, tt);
          stands = restand f store e.s q _ refl h;
          kept = told_kept a _ refl refl refl refl refl refl (ap (λ (x : ℕ). x - a) k.untold) refl;
        }
    by_idles p (v ∷ w ∷ us) a e31 ar o = absurd ar.1

    -- ---- 2. a unit at the cursor
    module _ (p : e.s.pending ≡ false) (room : e.s.cursor < e.s.accepted) where
      abbrev u : Block
      u = f e.s.cursor

      ta : Taken u
      ta = fo e.s.cursor room

      len : length u.parts ≡ n
      len = l.cut e.s.cursor room

      low : num f e.s.oldest ≤ num f e.s.cursor
      low = num_le f e.s.oldest e.s.cursor l.begun

      at_c : cursor_at q ≡ num f e.s.cursor - num f e.s.oldest
      at_c = at_cursor f store e.s q l h fo

      front_is : stored_flits q.capacity.0 q.first store (cursor_at q) n ≡ joined u.parts
      front_is =
          ap (stored_flits q.capacity.0 q.first store (cursor_at q)) (sym len)
          ∙ row q.capacity.0 q.first (cursor_at q) store u.parts (length u.parts) (omega arith) at
          ∙ ap joined (take-length u.parts)
        where
          at : (j : ℕ) → j < length u.parts → flit_at store (ring_place q.capacity.0 q.first (cursor_at q + j)) ≡ get_or u.parts j []
          at j lt =
              let i : cursor_at q + j ≡ num f e.s.cursor + j - num f e.s.oldest = omega (arith, low, at_c) in
              ap (λ (a : ℕ). flit_at store (ring_place q.capacity.0 q.first a)) i
              ∙ h.ring e.s.cursor j l.begun room (omega (arith, len))
              ∙ get_or-append u.parts (u.body ∷ []) [] j lt

      body_is : control_at_cursor q store n ≡ u.body
      body_is = ap (λ (a : ℕ). stored q store (a + n)) at_c ∙ body_at f store e.s q l h fo e.s.cursor l.begun room

      -- the unit as it is sent
      abbrev unit_here : ℕ → List ℕ
      unit_here a = sealed (joined u.parts ++ control_told u.body a (some u.run))

      unit_is : (a : ℕ) → unit_sent q store n a ≡ unit_here a
      unfolding unit_sent
      unit_is a =
          ap₂ (λ (x y : List ℕ). sealed (x ++ control_told y a (ltb 0 (read run_length (content y))))) front_is body_is
          ∙ ap (λ (b : Bool). sealed (joined u.parts ++ control_told u.body a b)) (ap (ltb 0) ta.run ∙ some_test u.run)

      -- past it
      past_stands : (m : ℕ) → Stands f store (Step.moved e.s) (with_untold m (past_unit q n))
      past_stands m =
          record {
            least = h.least;
            size = h.size;
            most = h.most;
            room = h.room;
            base = h.base;
            acked = h.acked;
            cursor = past;
            sent = go (dec_lt e.s.sent (suc e.s.cursor));
            held = h.held;
            kept = h.kept;
            pending = h.pending;
            first = h.first;
            ring = h.ring;
          }
        where
          sum : num f e.s.cursor + (n + 1) ≡ num f (suc e.s.cursor)
          sum = omega arith

          past : after width q.cursor.0 (n + 1) ≡ wrap (num f (suc e.s.cursor))
          past =
              ap (λ (a : ℕ). after width a (n + 1)) h.cursor ∙ after_wrap width (num f e.s.cursor) (n + 1) ∙ ap wrap sum

          at_s : sent_at q ≡ num f e.s.sent - num f e.s.oldest
          at_s = at_sent f store e.s q l h fo

          go : Dec (e.s.sent < suc e.s.cursor)
              → cond (ltb (sent_at q) (cursor_at q + (n + 1))) (after width q.cursor.0 (n + 1)) q.sent.0
              ≡ wrap (num f (max e.s.sent (suc e.s.cursor)))
          go (yes c) =
              let d : e.s.sent ≡ e.s.cursor = omega (arith, l.behind) in
              let v : num f e.s.sent ≡ num f e.s.cursor = ap (num f) d in
              let m : max e.s.sent (suc e.s.cursor) ≡ suc e.s.cursor = omega arith in
              simp (lt-ltb (sent_at q) (cursor_at q + (n + 1)) (omega (arith, at_s, at_c))) (past ∙ ap (λ (a : ℕ). wrap (num f a)) (sym m))
          go (no c) =
              let v : num f (suc e.s.cursor) ≤ num f e.s.sent = num_le f (suc e.s.cursor) e.s.sent (omega arith) in
              let m : max e.s.sent (suc e.s.cursor) ≡ e.s.sent = omega arith in
              simp (le-ltb (sent_at q) (cursor_at q + (n + 1)) (omega (arith, at_s, at_c, low))) (h.sent ∙ ap (λ (a : ℕ). wrap (num f a)) (sym m))

      -- what arrives for it
      module _ (a : ℕ) (le : a ≤ 31) (v : List ℕ) (ar : Arrives (unit_here a) v) where
        size : length v ≡ suc n * 64
        size = damage_size (unit_here a) v ar.damage ∙ made_size u ta a (some u.run) le ∙ ap (λ (i : ℕ). suc i * 64) len

        same : right v ≡ true → v ≡ unit_here a
        same r = right_same (unit_here a) v (made_bytes u ta a (some u.run) le) (made_right u ta a (some u.run) le) ar.damage r

        comes : (zz : Chain) (lo hi : ℕ) → zz.got ≡ []
            → ReadsAll f zz
            (Step.carried lo hi (right v) (pieces v 0 n) (item (control u.body u.run a (some u.run)) (right v) lo hi ∷ []))
            (spread (record { sent = unit_here a; arrives = v }) 0 (length v / 64))
        comes zz lo hi em =
            let c : length v / 64 ≡ suc n = omega (arith, size) in
            rw c
            (unit_reads f lo hi u.run a u.body (some u.run) (right v) (record { sent = unit_here a; arrives = v }) zz 0 n
            (ap joined em) (omega (arith, size)) refl (made_unit u ta a (some u.run) le) (ar.no_replay (made_no_replay u ta a (some u.run) le))
            (λ r. says r) same)
          where
            says : right v ≡ true → SaysControl u.body u.run a (some u.run) (flit_at v (0 + n))
            says r =
                subst (SaysControl u.body u.run a (some u.run))
                (ap₂ flit_at (sym (same r)) (len ∙ omega arith)) (made_says u ta a (some u.run) le)

        parts : right v ≡ true → pieces v 0 n ≡ u.parts
        parts r = ap₂ (λ (x : List ℕ) (i : ℕ). pieces x 0 i) (same r) (sym len) ∙ made_parts u ta a (some u.run) le

      by_alone : n ≡ 0 → (vs : List (List ℕ)) (a : ℕ) → a ≡ sending.carried e.r.untold → ArriveAll Arrives (unit_here a ∷ []) vs
          → Oks Ok (passing (unit_here a ∷ []) vs) → Goal (passing (unit_here a ∷ []) vs) (with_untold (q.untold.0 - a) (past_unit q n))
      by_alone o [] a e31 ar ok = elim ar [ ]
      by_alone o (v ∷ []) a e31 ar ok =
          let le = carried_31 e.r.untold in
          let un = carried_le e.r.untold in
          let none : pieces v 0 n ≡ [] = ap (pieces v 0) o in
          record {
            b = _;
            e' = _;
            does = alone {k = a} (ok.0 (made_right u ta a (some u.run) (omega arith))) live p room o (omega arith);
            reads =
                rw (append-nil (spread (record { sent = unit_here a; arrives = v }) 0 (length v / 64)))
                (subst
                (λ (xs : List (List ℕ)). ReadsAll f z
                (Step.carried e.s.oldest (max e.s.sent (suc e.s.cursor)) (right v) xs
                (item (control u.body u.run a (some u.run)) (right v) e.s.oldest (max e.s.sent (suc e.s.cursor)) ∷ []))
                (spread (record { sent = unit_here a; arrives = v }) 0 (length v / 64)))
                none
                (comes a (omega arith) v ar.0 z e.s.oldest (max e.s.sent (suc e.s.cursor)) t.rest.none));
            sized = let a' = size_of v n (size a (omega arith) v ar.0) in (a'.0, a'.1, tt);
            stands = past_stands (q.untold.0 - a);
            kept = told_kept a _ refl refl refl refl refl refl (ap (λ (x : ℕ). x - a) k.untold) refl;
          }
      by_alone o (v ∷ w ∷ us) a e31 ar ok = absurd ar.1

      by_burst : 0 < n → (vs : List (List ℕ)) (a b : ℕ) → a ≡ sending.carried e.r.untold → b ≡ sending.carried (e.r.untold - a)
          → ArriveAll Arrives (idle_here a false ∷ unit_here b ∷ []) vs → Oks Ok (passing (idle_here a false ∷ unit_here b ∷ []) vs)
          → Goal (passing (idle_here a false ∷ unit_here b ∷ []) vs) (with_untold (q.untold.0 - a - b) (past_unit q n))
      by_burst o [] a b ea eb ar ok = elim ar [ ]
      by_burst o (x ∷ []) a b ea eb ar ok = absurd ar.1
      by_burst o (x ∷ v ∷ []) a b ea eb ar ok =
          let le = carried_31 e.r.untold in
          let le' = carried_31 (e.r.untold - a) in
          let un = carried_le e.r.untold in
          let un' = carried_le (e.r.untold - a) in
          let r = idle_read a false n (omega arith) (omega (arith, n≤)) in
          let hi = max e.s.sent (suc e.s.cursor) in
          let lb : b ≤ 31 = omega arith in
          record {
            b = _;
            e' = _;
            does =
                Step.burst a b (right v) (pieces v 0 n) (ok.0 r.right_alone) (ok.1.0 (made_right u ta b (some u.run) lb)) live p room o (omega arith)
                (length_pieces v 0 n) (parts b lb v ar.1.0);
            reads =
                rw (
                  alone_reads (record { sent = idle_here a false; arrives = x }) (damage_size (idle_here a false) x ar.0.damage ∙ r.size),
                  append-nil (spread (record { sent = unit_here b; arrives = v }) 0 (length v / 64)),
                ) (
                  (idle_comes f z e.s.oldest e.s.sent a n false x (omega arith) n≤ ar.0).0,
                  (comes b lb v ar.1.0 (chain_after z (item (idle a false n) (right x) e.s.oldest e.s.sent)) e.s.oldest hi t.rest.none),
                );
            sized =
                let a' = size_of x 0 (damage_size (idle_here a false) x ar.0.damage ∙ r.size) in
                let b' = size_of v n (size b lb v ar.1.0) in
                (a'.0, a'.1, (b'.0, b'.1, tt));
            stands = past_stands (q.untold.0 - a - b);
            kept = told_kept (a + b) _ refl refl refl refl refl refl (omega (arith, k.untold)) refl;
          }
      by_burst o (x ∷ v ∷ w ∷ us) a b ea eb ar ok = absurd ar.1.1

    -- ---- the whole of send
    pub record Emitted (flits : List ℕ) (count : ℕ) (p : KeptEnd) : Type 0 where
      pub size : length flits ≡ count * 64
      pub follows : (vs : List (List ℕ)) → ArriveAll Arrives (units_of flits) vs → Oks Ok (passing (units_of flits) vs)
          → Sends Ok f g store hold handed e z (passing (units_of flits) vs) p

    abbrev Follows : List (List ℕ) → KeptEnd → Type 0
    Follows us p = (vs : List (List ℕ)) → ArriveAll Arrives us vs → Oks Ok (passing us vs) → Sends Ok f g store hold handed e z (passing us vs) p

    emitted : (flits : List ℕ) (us : List (List ℕ)) (count : ℕ) (p : KeptEnd) → units_of flits ≡ us → length flits ≡ count * 64 → Follows us p
        → Emitted flits count p
    emitted flits us count p u s k' = record { size = s; follows = rw u k' }

    waits_yes : e.s.cursor < e.s.accepted → unit_at_cursor q ≡ true
    waits_yes c =
        let a : num f e.s.cursor < num f e.s.accepted = num_lt f e.s.cursor e.s.accepted c in
        let b : num f e.s.oldest ≤ num f e.s.cursor = num_le f e.s.oldest e.s.cursor l.begun in
        lt-ltb (cursor_at q) q.held.0 (omega (arith, h.held, at_cursor f store e.s q l h fo))

    waits_no : e.s.cursor ≡ e.s.accepted → unit_at_cursor q ≡ false
    waits_no c =
        let a : num f e.s.cursor ≡ num f e.s.accepted = ap (num f) c in
        le-ltb (cursor_at q) q.held.0 (omega (arith, h.held, at_cursor f store e.s q l h fo))

    case_replays : e.s.pending ≡ true
        → Emitted (replay_sent q n errors information ++ replay_sent q n errors information) 2 (with_untold 0 (with_pending false q))
    case_replays p =
        rw replay_is
        (emitted (replay_here ++ replay_here) (replay_here ∷ replay_here ∷ []) 2 (with_untold 0 (with_pending false q))
        (units_two replay_here replay_here replay_fields.0 replay_fields.1 (omega (arith, replay_fields.0)))
        (length-append replay_here replay_here ∙ omega (arith, replay_fields.0)) (by_replays p))

    case_idle : e.s.pending ≡ false → Emitted (idle_flit (sending.carried q.untold.0) (ltb 0 n) n) 1 (with_untold (fallen q.untold.0) q)
    case_idle p =
        let c = sending.carried q.untold.0 in
        let r = idle_read c (some n) n (carried_31 q.untold.0) (omega (arith, n≤)) in
        rw (some_test n)
        (emitted (idle_flit c (some n) n) (idle_flit c (some n) n ∷ []) 1 (with_untold (fallen q.untold.0) q)
        (units_dl (idle_flit c (some n) n) r.size (omega (arith, r.is_idle))) (omega (arith, r.size))
        (λ vs. by_idles p vs c (ap sending.carried k.untold)))

    case_alone : e.s.pending ≡ false → e.s.cursor < e.s.accepted → n ≡ 0
        → Emitted (unit_sent q store n (sending.carried q.untold.0)) 1 (with_untold (fallen q.untold.0) (past_unit q n))
    case_alone p room o =
        let c = sending.carried q.untold.0 in
        let x = unit_here p room c in
        let ta = fo e.s.cursor room in
        let len : length (f e.s.cursor).parts ≡ 0 = l.cut e.s.cursor room ∙ o in
        let size : length x ≡ 64 = made_size (f e.s.cursor) ta c (some (f e.s.cursor).run) (carried_31 q.untold.0) ∙ omega arith in
        rw (unit_is p room c)
        (emitted x (x ∷ []) 1 (with_untold (fallen q.untold.0) (past_unit q n))
        (units_tl x size (made_alone (f e.s.cursor) ta c (some (f e.s.cursor).run) (carried_31 q.untold.0) len)) (omega arith)
        (λ vs. by_alone p room o vs c (ap sending.carried k.untold)))

    case_burst : e.s.pending ≡ false → e.s.cursor < e.s.accepted → 0 < n
        → Emitted (idle_flit (sending.carried q.untold.0) false n ++ unit_sent q store n (sending.carried (fallen q.untold.0))) (n + 2)
        (with_untold (fallen (fallen q.untold.0)) (past_unit q n))
    case_burst p room o =
        let c = sending.carried q.untold.0 in
        let c' = sending.carried (fallen q.untold.0) in
        let x = unit_here p room c' in
        let y = idle_flit c false n in
        let r = idle_read c false n (carried_31 q.untold.0) (omega (arith, n≤)) in
        let ta = fo e.s.cursor room in
        let size : length x ≡ suc n * 64 =
        made_size (f e.s.cursor) ta c' (some (f e.s.cursor).run) (carried_31 (fallen q.untold.0)) ∙ ap (λ (i : ℕ). suc i * 64) (l.cut e.s.cursor room) in
        rw (unit_is p room c')
        (emitted (y ++ x) (y ∷ x ∷ []) (n + 2) (with_untold (fallen (fallen q.untold.0)) (past_unit q n))
        (units_two y x r.size (omega (arith, r.is_idle)) (omega arith)) (length-append y x ∙ omega (arith, r.size))
        (λ vs. by_burst p room o vs c c' (ap sending.carried k.untold) (ap (λ (i : ℕ). sending.carried (i - c)) k.untold)))

    case_unit : e.s.pending ≡ false → e.s.cursor < e.s.accepted
        → Emitted
        (cond (ltb 0 n) (idle_flit (sending.carried q.untold.0) false n ++ unit_sent q store n (sending.carried (fallen q.untold.0)))
        (unit_sent q store n (sending.carried q.untold.0)))
        (cond (ltb 0 n) (n + 2) 1) (with_untold (cond (ltb 0 n) (fallen (fallen q.untold.0)) (fallen q.untold.0)) (past_unit q n))
    case_unit p room = go (dec_lt 0 n)
      where
        go : Dec (0 < n)
            → Emitted
            (cond (ltb 0 n) (idle_flit (sending.carried q.untold.0) false n ++ unit_sent q store n (sending.carried (fallen q.untold.0)))
            (unit_sent q store n (sending.carried q.untold.0)))
            (cond (ltb 0 n) (n + 2) 1) (with_untold (cond (ltb 0 n) (fallen (fallen q.untold.0)) (fallen q.untold.0)) (past_unit q n))
        go (yes o) = simp (lt-ltb 0 n o) (case_burst p room o)
        go (no o) = simp (le-ltb 0 n (omega arith)) (case_alone p room (omega arith))

    emits : Emitted (burst q store n errors information) (burst_flits q n) (sending.moved q n)
    unfolding burst burst_flits sending.moved
    emits = go e.s.pending refl (dec_lt e.s.cursor e.s.accepted)
      where
        go : (b : Bool) → e.s.pending ≡ b → Dec (e.s.cursor < e.s.accepted)
            → Emitted (burst q store n errors information) (burst_flits q n) (sending.moved q n)
        go true p c = simp (h.pending ∙ p) (case_replays p)
        go false p (yes c) = let r = h.pending ∙ p in simp (r, waits_yes c) (simp r at case_unit p c)
        go false p (no c) = let r = h.pending ∙ p in simp (r, waits_no (omega (arith, l.behind, l.given))) (simp r at case_idle p)

    pub emits_all : Emitted (burst q store (previous_run q store) errors information) (burst_flits q (previous_run q store)) (sending.moved q (previous_run q store))
    emits_all = rw run_here emits
