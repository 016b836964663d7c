-- What an end writes, and what is read of it where it arrives. A unit is sent with its check, so what is right of what arrives is what was
-- sent, whatever the damage; and of what was sent each field is read as it was meant.
use mathlib.Core.Path.{◌≡◌, refl, ap, ap₂, sym, subst, ◌∙◌}
use mathlib.Core.Bool.{Bool, true, false, true≢false}
use mathlib.Core.List.{List, [], ◌∷◌, ◌++◌, append_assoc}
use Prim.Native.Nat.{ℕ, zero, suc, ◌+◌, ◌-◌, ◌*◌, ◌/◌, ◌^◌, ◌≤◌, ◌<◌}
use native.Mathlib.Nat.{mod-lt}
use native.Mathlib.Omega.{arith}
use borrow.Author.Tests.{lt-ltb, le-ltb, eq-eqb, ne_eqb}
use lib.Pow.{pow_pos}
use Rattle.std.proofs.Math.Bool.{and-false}
use lib.ListN.{length, take, drop, length-append, length-drop, take-append-drop}
use lib.Seq.{take_all, take_at, drop_at, take-take, take-add, drop-drop}
use Rattle.flit_number.specs.Numbers.{width, acknowledge_for}
use Rattle.flit_number.proofs.Laws.{difference_lt}
use Rattle.crc.specs.Unit.{right, AllBytes}
use Rattle.crc.specs.Seal.{sealed}
use Rattle.crc.proofs.Damage.{odd_damage, burst_Right}
use Rattle.crc.proofs.Divides.{right_Right}
use Rattle.crc.proofs.Sealing.{length_sealed, sealed_keeps_bytes, sealed_bytes, sealed_right}
use Rattle.flit_read.specs.Fields.{fields_of, replay_kind as replay_run}
use Rattle.flit_write.specs.Flits.{control_told, idle_flit, replay_flit}
use Rattle.flit_write.specs.declared.Replay.{Replay}
use Rattle.flit_read.proofs.Laws.{append_bytes}
use Rattle.flit_write.proofs.RoundTrip.{idle_read, replay_read, ControlRead, control_sealed, control_told_size, control_told_bytes}
use Rattle.end_state.specs.Ring.{flit_at}
use Rattle.end_state.proofs.Places.{flit_length}
use Rattle.proof_model.proofs.Stream.{Block, Stream, num, part, control, idle, replay}
use Rattle.proof_model.proofs.Step.{item, carried}
use Rattle.proof_model.proofs.Chain.{Chain, after}
use Rattle.proof_wire.specs.Damage.{window_bits, Damage, unaltered, odd_bits, near_bits, reads_replay, sent_replay, Arrives}
use Rattle.proof_wire.specs.System.{Passage}
use Rattle.proof_wire.specs.Theorem.{is_unit}
use Rattle.proof_wire.proofs.Pieces.{Flits, joined, cut, length_joined, joined_snoc, flit_alone}
use Rattle.proof_wire.proofs.Wrap.{meaning, wrap}
use Rattle.proof_wire.proofs.Stands.{Taken, run_le}
use Rattle.proof_wire.proofs.Says.{Flight, ends_unit, SaysControl, ReadsAll}

-- ---- damage

pub damage_size : (u v : List ℕ) → Damage window_bits u v → length v ≡ length u
damage_size u v (unaltered e) = ap length e
damage_size u v (odd_bits l b h) = l
damage_size u v (near_bits l b h) = l

-- what is right of what arrives is what was sent
pub right_same : (u v : List ℕ) → AllBytes u → right u ≡ true → Damage window_bits u v → right v ≡ true → v ≡ u
right_same u v b r (unaltered e) h = e
right_same u v b r (odd_bits l c o) h = absurd (true≢false (sym h ∙ odd_damage u v r o))
right_same u v b r (near_bits l c w) h = sym (burst_Right u v (sym l) b c ((right_Right u).0 r) w ((right_Right v).0 h))

-- ---- the flits of what arrives, one by one

abbrev pub spread : Passage → ℕ → ℕ → List Flight
spread p k zero = []
spread p k (suc n) = record { sent = p.sent; arrives = p.arrives; part = k } ∷ spread p (suc k) n

abbrev pub flights : List Passage → List Flight
flights [] = []
flights (p ∷ ps) = spread p 0 (length p.arrives / 64) ++ flights ps

abbrev pub flits : Passage → ℕ
flits p = length p.arrives / 64

-- each is of one flit or more
abbrev pub Sized : List Passage → Type 0
Sized [] = Unit {0}
Sized (p ∷ ps) = (length p.arrives ≡ flits p * 64) × (1 ≤ flits p) × Sized ps

-- the flits from number k on, n of them
abbrev pub pieces : List ℕ → ℕ → ℕ → List (List ℕ)
pieces v k zero = []
pieces v k (suc n) = flit_at v k ∷ pieces v (suc k) n

pub length_pieces : (v : List ℕ) (k n : ℕ) → length (pieces v k n) ≡ n
length_pieces v k zero = refl
length_pieces v k (suc n) = ap suc (length_pieces v (suc k) n)

pieces_cut : (v : List ℕ) (k n : ℕ) → pieces v k n ≡ cut n (drop (k * 64) v)
unfolding flit_at
pieces_cut v k zero = refl
pieces_cut v k (suc n) =
    let e : k * 64 + 64 ≡ suc k * 64 = omega arith in
    ap (λ (l : List (List ℕ)). take 64 (drop (k * 64) v) ∷ l)
    (pieces_cut v (suc k) n ∙ ap (cut n) (ap (λ (m : ℕ). drop m v) (sym e) ∙ sym (drop-drop 64 (k * 64) v)))

cut_joined : (xs : List (List ℕ)) (ys : List ℕ) → Flits xs → cut (length xs) (joined xs ++ ys) ≡ xs
cut_joined [] ys h = refl
cut_joined (x ∷ xs) ys h =
    let e = append_assoc x (joined xs) ys in
    ap₂ (λ (y : List ℕ) (l : List (List ℕ)). y ∷ l)
    (ap (take 64) e ∙ take_at x (joined xs ++ ys) 64 h.0)
    (ap (cut (length xs)) (ap (drop 64) e ∙ drop_at x (joined xs ++ ys) 64 h.0) ∙ cut_joined xs ys h.1)

-- ---- a unit with its control flit

-- v arrives for a unit: its flits say what the items of the unit say
module _ (f : Stream) (lo hi m a : ℕ) (b : List ℕ) (st ok : Bool) (p : Passage) where
  pub unit_reads : (z : Chain) (k n : ℕ) → joined z.got ≡ take (k * 64) p.arrives → length p.arrives ≡ suc (k + n) * 64
      → right p.arrives ≡ ok → is_unit p.sent ≡ true → ((i : ℕ) → reads_replay (flit_at p.arrives i) ≡ false)
      → (ok ≡ true → SaysControl b m a st (flit_at p.arrives (k + n))) → (ok ≡ true → p.arrives ≡ p.sent)
      → ReadsAll f z (carried lo hi ok (pieces p.arrives k n) (item (control b m a st) ok lo hi ∷ [])) (spread p k (suc n))
  unfolding flit_at ends_unit
  unit_reads z k zero g l r iu pl s sm =
      let v = p.arrives in
      let e : k + 0 ≡ k = omega arith in
      let size : length (drop (k * 64) v) ≡ 64 = length-drop (k * 64) v ∙ omega arith in
      let whole : joined z.got ++ flit_at v k ≡ v =
      ap₂ (λ (x y : List ℕ). x ++ y) g (take_all 64 (drop (k * 64) v) (omega arith)) ∙ take-append-drop (k * 64) v in (
        record {
          right_is = ap right whole ∙ r;
          ends = simp (eq-eqb (suc k * 64) (length v) (omega arith), iu);
          plain = pl k;
          size = flit_length v k (omega arith);
          says = λ t. rw e at s t;
          whole = whole;
          last = omega arith;
          same = sm;
        },
        tt,
      )
  unit_reads z k (suc n) g l r iu pl s sm =
      let v = p.arrives in
      let e : k + suc n ≡ suc k + n = omega arith in
      let e' : k * 64 + 64 ≡ suc k * 64 = omega arith in (
        record {
          same = refl;
          ends = simp (ne_eqb (suc k * 64) (length v) (λ y. omega arith));
          plain = pl k;
          size = flit_length v k (omega arith);
        },
        unit_reads (after z (item (part (flit_at v k)) ok lo hi)) (suc k) n
            (joined_snoc z.got (flit_at v k) ∙ ap (λ (x : List ℕ). x ++ flit_at v k) g ∙ sym (take-add (k * 64) 64 v) ∙ ap (λ (i : ℕ). take i v) e')
            (omega arith) r iu pl
            (λ t. rw e at s t) sm,
      )

-- a unit as it is sent
module _ (u : Block) (h : Taken u) (acks : ℕ) (st : Bool) (le : acks ≤ 31) where
  abbrev plain_unit : List ℕ
  plain_unit = joined u.parts ++ control_told u.body acks st

  abbrev made : List ℕ
  made = sealed plain_unit

  plain_size : length plain_unit ≡ suc (length u.parts) * 64
  plain_size =
      length-append (joined u.parts) (control_told u.body acks st)
      ∙ omega (arith, length_joined u.parts h.parts, control_told_size u.body acks st h.body)

  pub made_size : length made ≡ suc (length u.parts) * 64
  made_size = length_sealed plain_unit ∙ plain_size

  pub made_bytes : AllBytes made
  made_bytes =
      sealed_bytes plain_unit
      (append_bytes (joined u.parts) (control_told u.body acks st) h.parts_bytes (control_told_bytes u.body acks st h.body h.body_bytes))

  pub made_right : right made ≡ true
  made_right = sealed_right plain_unit (omega (arith, plain_size))

  made_read : ControlRead u.body acks st (drop (length (joined u.parts)) made)
  made_read = control_sealed (joined u.parts) u.body acks st h.parts_bytes h.body h.body_bytes h.fair le

  front_size : length (joined u.parts) ≡ length u.parts * 64
  front_size = length_joined u.parts h.parts

  pub made_last : flit_at made (length u.parts) ≡ drop (length (joined u.parts)) made
  unfolding flit_at
  made_last =
      ap (λ (n : ℕ). take 64 (drop n made)) (sym front_size)
      ∙ take_all 64 (drop (length (joined u.parts)) made) (omega (arith, made_read.size))

  pub made_says : SaysControl u.body u.run acks st (flit_at made (length u.parts))
  unfolding fields_of
  made_says =
      let c = made_read in
      rw made_last
      (record {
        run = ap (λ v. v.0) c.run_read ∙ h.run;
        acks = c.acks_read;
        stalled = c.stalled_read;
        short = c.short_read;
        bare = c.bare;
        le = run_le u h;
      })

  pub made_front : take (length u.parts * 64) made ≡ joined u.parts
  made_front =
      let n = length u.parts * 64 in
      sym (take-take n (length plain_unit - 5) made (omega (arith, plain_size)))
      ∙ ap (take n) (sealed_keeps_bytes plain_unit)
      ∙ take-take n (length plain_unit - 5) plain_unit (omega (arith, plain_size))
      ∙ take_at (joined u.parts) (control_told u.body acks st) n front_size

  pub made_parts : pieces made 0 (length u.parts) ≡ u.parts
  made_parts =
      pieces_cut made 0 (length u.parts)
      ∙ ap (cut (length u.parts)) (sym (take-append-drop (length u.parts * 64) made) ∙ ap (λ (x : List ℕ). x ++ drop (length u.parts * 64) made) made_front)
      ∙ cut_joined u.parts (drop (length u.parts * 64) made) h.parts

  -- it is not sent as a replay flit, and it begins with no flit that is a unit of its own where it is alone
  pub made_alone : length u.parts ≡ 0 → (fields_of made).run.0 ≤ 8
  made_alone z =
      let e : made ≡ flit_at made (length u.parts) =
      sym (ap (flit_at made) z ∙ flit_alone made (omega (arith, made_size))) in
      let s = made_says in
      subst (λ (x : List ℕ). (fields_of x).run.0 ≤ 8) (sym e) (omega (arith, s.run, run_le u h))

  pub made_no_replay : sent_replay made ≡ false
  unfolding sent_replay
  made_no_replay = go (length u.parts) refl
    where
      go : (n : ℕ) → length u.parts ≡ n → sent_replay made ≡ false
      go zero z =
          let a = made_alone z in
          simp (ne_eqb (fields_of made).run.0 replay_run (λ y. omega arith), and-false)
      go (suc n) z = simp (ne_eqb (length made) 64 (λ y. omega (arith, made_size)))

  -- it is a unit of the transaction layer
  pub made_unit : is_unit made ≡ true
  unfolding is_unit
  made_unit = go (length u.parts) refl
    where
      go : (n : ℕ) → length u.parts ≡ n → is_unit made ≡ true
      go zero z = simp (le-ltb 8 (fields_of made).run.0 (made_alone z), and-false)
      go (suc n) z = simp (ne_eqb (length made) 64 (λ y. omega (arith, made_size)))

-- ---- an idle and a replay flit

-- a flit that is a unit of its own ends no unit of the transaction layer
pub dl_ends : (y : Flight) → length y.sent ≡ 64 → 8 < (fields_of y.sent).run.0 → ends_unit y ≡ false
unfolding ends_unit is_unit
dl_ends y l r = simp (l, lt-ltb 8 (fields_of y.sent).run.0 r, and-false)

pub alone_reads : (p : Passage) → length p.arrives ≡ 64 → spread p 0 (length p.arrives / 64) ≡ spread p 0 1
alone_reads p h = let e : length p.arrives / 64 ≡ 1 = omega arith in ap (spread p 0) e

pub idle_comes : (f : Stream) (z : Chain) (lo hi k n : ℕ) (st : Bool) (v : List ℕ) → k ≤ 31 → n ≤ 8 → Arrives (idle_flit k st n) v
    → ReadsAll f z (item (idle k st n) (right v) lo hi ∷ []) (spread (record { sent = idle_flit k st n; arrives = v }) 0 1)
idle_comes f z lo hi k n st v a c h =
    let r = idle_read k st n a (omega arith) in
    let size : length v ≡ 64 = damage_size (idle_flit k st n) v h.damage ∙ r.size in
    let al = flit_alone v size in (
      record {
        right_is = ap right al;
        ends = dl_ends (record { sent = idle_flit k st n; arrives = v; part = 0 }) r.size (omega (arith, r.is_idle));
        size = ap length al ∙ size;
        says =
            λ t.
            rw (al ∙ right_same (idle_flit k st n) v r.are_bytes r.right_alone h.damage t)
            (record { run = r.is_idle; acks = r.acks_read; stalled = r.stalled_read; short = r.short_read; owes = r.owed_read });
      },
      tt,
    )

-- the replay flit of a sender whose cursor is at unit p
abbrev pub replay_of : Stream → ℕ → ℕ → ℕ → ℕ → Bool → ℕ → Bool → Replay
replay_of f p n errors information st t na =
    record {
      information = information;
      previous = record { 0 = n };
      start = record { 0 = wrap (num f p) };
      last = record { 0 = acknowledge_for meaning width (wrap t) };
      errors = errors;
      stalled = st;
      nack = na;
    }

pub replay_comes : (f : Stream) (z : Chain) (lo hi p n errors information t : ℕ) (na st : Bool) (v : List ℕ) → n ≤ 8 → errors < 256 → information < 2 ^ 64
    → Arrives (replay_flit (replay_of f p n errors information st t na)) v
    → ReadsAll f z (item (replay na p n st t) (right v) lo hi ∷ [])
    (spread (record { sent = replay_flit (replay_of f p n errors information st t na); arrives = v }) 0 1)
unfolding acknowledge_for
replay_comes f z lo hi p n errors information t na st v c he hi' h =
    let w = replay_of f p n errors information st t na in
    let r = replay_read w hi' (difference_lt width (wrap t) 1) (mod-lt (num f p) (pow_pos width)) (omega arith) he in
    let size : length v ≡ 64 = damage_size (replay_flit w) v h.damage ∙ r.size in
    let al = flit_alone v size in (
      record {
        right_is = ap right al;
        ends = dl_ends (record { sent = replay_flit w; arrives = v; part = 0 }) r.size (omega (arith, r.is_replay));
        size = ap length al ∙ size;
        says =
            λ q.
            rw (al ∙ right_same (replay_flit w) v r.are_bytes r.right_alone h.damage q)
            (record {
              run = r.is_replay;
              nack = r.nack_read;
              stalled = r.stalled_read;
              short = r.short_read;
              owes = ap (λ x. x.0) r.previous_read;
              le = c;
              start = ap (λ x. x.0) r.starting_read;
              last = ap (λ x. x.0) r.acknowledge_read;
            });
      },
      tt,
    )
