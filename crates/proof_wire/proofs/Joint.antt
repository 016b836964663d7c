-- Two ends on bytes and two ends of the abstract link, side by side: what each kept state stands for, what each wire carries, and the
-- invariant. Each call keeps it. `x` and `y` say whether what a and what b have sent is all unaltered, and then what holds besides.
use mathlib.Core.Path.{◌≡◌, refl, ap, sym, subst, ◌∙◌}
use mathlib.Core.Bool.{Bool, true, false, false≢true}
use mathlib.Core.Logic.{◌≢◌}
use mathlib.Core.List.{List, [], ◌∷◌, ◌++◌, map, append-nil}
use Prim.Native.Nat.{ℕ, suc, ◌+◌, ◌*◌, ◌^◌, ◌≤◌, ◌<◌}
use native.Mathlib.Omega.{arith}
use native.Mathlib.Decide.{dec_lt}
use borrow.Author.Tests.{lt-ltb, le-ltb, ltb-true}
use lib.ListN.{length, drop, get_or, length-append, get_or-append}
use lib.Seq.{drop-cons, drop-append-le, take_at, get_or-append-add}
use Rattle.std.specs.Prelude.{Result, Ok, Err}
use Rattle.std.proofs.lemmas.List.{map-append}
use Rattle.crc.specs.Unit.{right, AllBytes}
use Rattle.flit_read.specs.Bytes.{number}
use Rattle.flit_read.specs.Fields.{fields_of}
use Rattle.end_state.specs.Refusals.{store_is, sound, is_down, previous_run, last_run}
use Rattle.end_state.specs.declared.End.{End as KeptEnd}
use Rattle.end_state.specs.declared.Refusal.{Refusal}
use Rattle.end_state.specs.declared.Refusal.TheVariants as refusal
use Rattle.accept_verdict.specs.Admission.{accept_verdict}
use Rattle.accept_verdict.proofs.Admitted.{Admission, admission}
use Rattle.accept.specs.Accept as accept
use Rattle.send_state.specs.Moves as moving
use Rattle.send_burst.specs.Burst as sending
use Rattle.send.specs.Send as send
use Rattle.receive_test.specs.Arrivals.{checked}
use Rattle.receive_answer.specs.Answers.{mode_answer}
use Rattle.receive_state.specs.Effects as effects
use Rattle.receive.specs.Receive as receive
use Rattle.proof_model.proofs.Stream.{Stream, owed, num, first, Item}
use Rattle.proof_model.proofs.End.{Mode, run, wait, down, Sender, End}
use Rattle.proof_model.proofs.Step
use Rattle.proof_model.proofs.Num.{num_le}
use Rattle.proof_model.proofs.Chain.{Chain, after, final, Grows, grows, final_append, step_hi}
use Rattle.proof_model.proofs.Inv.{At, Inv}
use Rattle.proof_model.proofs.Receive
use Rattle.proof_model.proofs.Send
use Rattle.proof_model.proofs.Begin.{swap}
use Rattle.proof_model.proofs.Clean.{Clean, Straight, sender_gives, sender_sends, sender_takes, receiver_gives, receiver_sends, receiver_takes}
use Rattle.proof_model.proofs.Tidy.{Tidy, tidy_send, tidy_receive, Framed, framed}
use Rattle.proof_wire.specs.Damage.{Arrives, units_of}
use Rattle.proof_wire.specs.System.{WireSide, Passage, Wire, System, ArriveAll, with_accepted, wire_bytes, flits_sent, passing, put, arriving, on_the_way, oldest_flit, handed_by, receiving, take_one, calls, accepts, sends, receives, turned}
use Rattle.proof_wire.specs.Theorem.{as_handed}
use Rattle.proof_wire.proofs.Wrap.{most}
use Rattle.proof_wire.proofs.Stands.{Stands, Taken, Formed, owed_le}
use Rattle.proof_wire.proofs.Says.{Flight, flit, Reads, ReadsAll, reads_append, reads_size, mode_of, bytes_of, units, Kept}
use Rattle.proof_wire.proofs.Arrive.{Followed, Came}
use Rattle.proof_wire.proofs.Follow.{follows}
use Rattle.proof_wire.proofs.Sound.{store_right, sound_right, last_run_is}
use Rattle.proof_wire.proofs.Offer.{block_of, block_bytes, block_taken, has_room, accept_stands}
use Rattle.proof_wire.proofs.Makes.{flights, Sized}
use Rattle.proof_wire.proofs.Emits.{Oks, Sends, Emitted, emits_all}
use Rattle.proof_wire.proofs.Along.{sized_append, flights_append, length_arriving, none, at as flight_at, Located, locate, handeds, sents, sents_append, units_along}

-- what is known of each unit sent one way: that it is right, or nothing
abbrev pub Kind : Bool → Bool → Type 0
Kind true b = b ≡ true
Kind false b = Unit {0}

-- f is the stream that an end has been given so far
abbrev pub Agrees : Stream → List (List ℕ) → Type 0
Agrees f units = (i : ℕ) → i < length units → f i ≡ block_of (get_or units i [])

-- an end: e is what it stands for, f its stream, g the other's
pub record Linked (f g : Stream) (e : End) (x : WireSide) : Type 0 where
  pub stands : Stands f x.store e.s x.end
  pub kept : Kept g e.r x.end x.hold x.handed
  pub count : length x.accepted ≡ e.s.accepted
  pub formed : Formed f e.s.accepted
  pub as_bytes : (i : ℕ) → i < length x.accepted → bytes_of (f i) ≡ get_or x.accepted i []
  pub tidy : Tidy e.r

-- a wire: l are the flits on the way as they were meant, c is where they begin
pub record OnWire (f : Stream) (c : Chain) (l : List Item) (w : Wire) : Type 0 where
  pub sized : Sized w.passages
  pub le : w.taken ≤ length (flights w.passages)
  pub reads : ReadsAll f c l (drop w.taken (flights w.passages))

pub record Joint (x y : Bool) (f g : Stream) (s : System) : Type 0 where
  pub e : End
  pub p : End
  pub l : List Item
  pub m : List Item
  pub c : Chain
  pub d : Chain
  pub inv : Inv most f g e p l m c d
  pub left : Linked f g e s.a
  pub right_end : Linked g f p s.b
  pub there : OnWire f c l s.ab
  pub here : OnWire g d m s.ba
  pub clean : x ≡ true → Clean e p l m c
  pub clean' : y ≡ true → Clean p e m l d
  pub log : x ≡ true → handeds (flights s.ab.passages) ≡ units (first f e.s.sent)
  pub log' : y ≡ true → handeds (flights s.ba.passages) ≡ units (first g p.s.sent)

-- the same, the other end first
pub flip : {x y : Bool} {f g : Stream} {s : System} → Joint x y f g s → Joint y x g f (turned s)
flip j =
    record {
      e = j.p;
      p = j.e;
      l = j.m;
      m = j.l;
      c = j.d;
      d = j.c;
      inv = swap j.inv;
      left = j.right_end;
      right_end = j.left;
      there = j.here;
      here = j.there;
      clean = j.clean';
      clean' = j.clean;
      log = j.log';
      log' = j.log;
    }

small : most ≤ 1024
small = omega arith

-- a send where nothing is altered
clean_sends : (x : Bool) (f g : Stream) (e p e' : End) (l m b : List Item) (c : Chain) → Step.Send (Kind x) f g e b e' → (x ≡ true → Clean e p l m c)
    → x ≡ true → Clean e' p (l ++ b) m c
clean_sends true f g e p e' l m b c h k t = sender_sends f g e p l m c e' b h (k t)
clean_sends false f g e p e' l m b c h k t = absurd (false≢true t)

-- ---- refusals 1 and 2 are not given

pub record Fine (q : KeptEnd) (store : List ℕ) : Type 0 where
  pub store_ok : store_is q (length store) ≡ true
  pub state_ok : sound q store ≡ true
  pub up : is_down q.mode ≡ false

up_of : (m : Mode) → m ≢ down → is_down (mode_of m) ≡ false
up_of run h = refl
up_of wait h = refl
up_of down h = absurd (h refl)

module _ (x y : Bool) (f g : Stream) (s : System) (j : Joint x y f g s) where
  pub live : j.e.r.mode ≢ down
  live z = subst (At g j.d j.e.s.acked j.e.r) z j.inv.from.head.at

  untold_le : j.e.r.untold ≤ 1024
  untold_le =
      let gr : Grows j.c (final j.c j.l) = grows most f j.c j.l j.inv.to.wire in
      let gd : Grows j.d (final j.d j.m) = grows most g j.d j.m j.inv.from.wire in
      let wn : num g j.e.r.wanted ≤ num g j.p.s.accepted =
      num_le g j.e.r.wanted j.p.s.accepted (omega (arith, gd.hi, j.inv.from.head.hi, j.inv.from.tail.hi, j.inv.other.given)) in
      omega (arith, j.inv.to.tail.told, gr.told, j.inv.to.head.acked, j.inv.other.freed, j.inv.other.fits)

  fr : Framed j.e.r
  fr = framed most g j.d j.m j.e.s.acked j.e.r j.inv.from.wire j.inv.from.tail.rest j.inv.from.head.at j.left.tidy

  pub fine : Fine s.a.end s.a.store
  fine =
      let st = j.left.stands in
      record {
        store_ok = store_right s.a.end (length s.a.store) st.least st.most st.size;
        state_ok = sound_right f g s.a.store s.a.hold s.a.handed j.e.s j.e.r s.a.end j.inv.own st j.left.kept j.left.formed j.left.tidy fr untold_le;
        up = ap is_down j.left.kept.mode ∙ up_of j.e.r.mode live;
      }

  last_is : last_run s.a.end s.a.store ≡ owed f j.e.s.accepted
  last_is =
      last_run_is f g s.a.store s.a.hold s.a.handed j.e.s j.e.r s.a.end j.inv.own j.left.stands j.left.kept j.left.formed j.left.tidy fr
      untold_le

  -- ---- accept

  agrees_last : (units : List (List ℕ)) (u : List ℕ) → Agrees f (units ++ (u ∷ [])) → f (length units) ≡ block_of u
  agrees_last units u h =
      let z : length units + 0 ≡ length units = omega arith in
      h (length units) (rw (length-append units (u ∷ [])) (omega arith)) ∙ ap block_of (rw z at (get_or-append-add units (u ∷ []) 0 []))

  module _ (unit : List ℕ) (are_bytes : AllBytes unit) where
    -- the system after accept, by its verdict
    abbrev offers : Result (Unit {0}) Refusal → System
    offers v =
        record {
          a =
              record {
                end = accept.accepted_end v s.a.end unit;
                store = accept.accepted_store v s.a.end s.a.store unit;
                hold = s.a.hold;
                accepted = with_accepted v s.a.accepted unit;
                handed = s.a.handed;
              };
          b = s.b;
          ab = s.ab;
          ba = s.ba;
        }

    takes_it : Admission s.a.end s.a.store unit → Agrees f (s.a.accepted ++ (unit ∷ [])) → Joint x y f g (offers (Ok tt))
    takes_it o ag =
        record {
          e = record { s = Step.accept j.e.s; r = j.e.r };
          p = j.p;
          l = j.l;
          m = j.m;
          c = j.c;
          d = j.d;
          inv = Send.accepts most f g j.e j.p j.l j.m j.c j.d j.inv room;
          left =
              record {
                stands = accept_stands f s.a.store unit j.e.s s.a.end j.inv.own j.left.stands o last_is this;
                kept =
                    let k = j.left.kept in
                    record {
                      mode = k.mode;
                      wanted = k.wanted;
                      position = k.position;
                      owes = k.owes;
                      stalled = k.stalled;
                      gathered = k.gathered;
                      untold = k.untold;
                      discards = k.discards;
                      held = k.held;
                      size = k.size;
                      out = k.out;
                    };
                count = length-append s.a.accepted (unit ∷ []) ∙ omega (arith, j.left.count);
                formed = λ i lt. forms i lt (dec_lt i j.e.s.accepted);
                as_bytes = λ i lt. bytes i lt (dec_lt i (length s.a.accepted));
                tidy = j.left.tidy;
              };
          right_end = j.right_end;
          there = j.there;
          here = j.here;
          clean = λ t. sender_gives f g j.e j.p j.l j.m j.c (j.clean t);
          clean' = λ t. receiver_gives most small g f j.p j.e j.m j.l j.d (j.clean' t);
          log = j.log;
          log' = j.log';
        }
      where
        at_end : f (length s.a.accepted) ≡ block_of unit
        at_end = agrees_last s.a.accepted unit ag

        this : f j.e.s.accepted ≡ block_of unit
        this = ap f (sym j.left.count) ∙ at_end

        room : Step.Room most f j.e.s
        room = has_room f s.a.store unit j.e.s s.a.end j.inv.own j.left.stands o last_is this

        forms : (i : ℕ) → i < suc j.e.s.accepted → Dec (i < j.e.s.accepted) → Taken (f i)
        forms i lt (yes q) = j.left.formed i q
        forms i lt (no q) =
            let z : i ≡ j.e.s.accepted = omega arith in
            rw (ap f z ∙ this) (block_taken unit o.shape.whole o.shape.least are_bytes o.control)

        bytes : (i : ℕ) → i < length (s.a.accepted ++ (unit ∷ [])) → Dec (i < length s.a.accepted) → bytes_of (f i) ≡ get_or (s.a.accepted ++ (unit ∷ [])) i []
        bytes i lt (yes q) = j.left.as_bytes i q ∙ sym (get_or-append s.a.accepted (unit ∷ []) [] i q)
        bytes i lt (no q) =
            let z : i ≡ length s.a.accepted + 0 = omega (arith, length-append s.a.accepted (unit ∷ [])) in
            let z' : i ≡ length s.a.accepted = omega (arith, length-append s.a.accepted (unit ∷ [])) in
            ap (λ (n : ℕ). bytes_of (f n)) z' ∙ ap bytes_of at_end ∙ block_bytes unit o.shape.whole o.shape.least
            ∙ sym (ap (λ (n : ℕ). get_or (s.a.accepted ++ (unit ∷ [])) n []) z ∙ get_or-append-add s.a.accepted (unit ∷ []) 0 [])

    pub by_accepts : Agrees f (calls (accepts unit) s).a.accepted → Joint x y f g (calls (accepts unit) s)
    unfolding accept.accept accept.accept_store
    by_accepts = go (accept_verdict s.a.end s.a.store unit) refl
      where
        go : (v : Result (Unit {0}) Refusal) → accept_verdict s.a.end s.a.store unit ≡ v → Agrees f (with_accepted v s.a.accepted unit)
            → Joint x y f g (offers v)
        go (Err r) e ag = j
        go (Ok u) e ag = takes_it (admission s.a.end s.a.store unit e) ag

  -- ---- send

  -- what was sent anew follows what was sent before, where nothing is altered
  straight_rest : (c : Chain) (l b : List Item) → Straight c (l ++ b) → Straight (final c l) b
  straight_rest c [] b h = h
  straight_rest c (i ∷ l) b h = straight_rest (after c i) l b h.2

  sent_same : {Ok : Bool → Type 0} {e e' : End} {b : List Item} → Step.Send Ok f g e b e' → e.s.accepted ≡ e'.s.accepted
  sent_same (Step.replays u v m q) = refl
  sent_same (Step.alone u m q room n un) = refl
  sent_same (Step.burst k i b xs u v m q room some un len t) = refl
  sent_same (Step.idles u m q un) = refl

  -- the wire with more sent on it
  on_wire : (f : Stream) (c : Chain) (l b : List Item) (w : Wire) (ps : List Passage) → OnWire f c l w → Sized ps → ReadsAll f (final c l) b (flights ps)
      → OnWire f c (l ++ b) (put ps w)
  on_wire f c l b w ps o z r =
      let fl = flights_append w.passages ps in
      record {
        sized = sized_append w.passages ps o.sized z;
        le = omega (arith, ap length fl, length-append (flights w.passages) (flights ps), o.le);
        reads =
            rw (fl, drop-append-le w.taken (flights w.passages) (flights ps) o.le)
            (reads_append f c l b (drop w.taken (flights w.passages)) (flights ps) o.reads r);
      }

  module _ (errors information : ℕ) (output : List ℕ) (arrivals : List (List ℕ)) (small_errors : errors < 256) (small_information : information < 2 ^ 64) where
    abbrev q : KeptEnd
    q = s.a.end

    abbrev store : List ℕ
    store = s.a.store

    abbrev n : ℕ
    n = previous_run q store

    abbrev burst : List ℕ
    burst = sending.burst q store n errors information

    -- the flits on the wire and the system after send, by its verdict
    abbrev flits_by : Result (Unit {0}) Refusal → List ℕ
    flits_by v = wire_bytes (send.sent_by v q n).answer (send.output_by v burst output)

    abbrev system_by : Result (Unit {0}) Refusal → System
    system_by v =
        record {
          a = record { end = (send.sent_by v q n).end; store = store; hold = s.a.hold; accepted = s.a.accepted; handed = s.a.handed };
          b = s.b;
          ab = put (passing (units_of (flits_by v)) arrivals) s.ab;
          ba = s.ba;
        }

    abbrev Goal : Result (Unit {0}) Refusal → Type 0
    Goal v = ArriveAll Arrives (units_of (flits_by v)) arrivals → Oks (Kind x) (passing (units_of (flits_by v)) arrivals) → Joint x y f g (system_by v)

    -- nothing goes on the wire
    no_units : units_of [] ≡ []
    unfolding units_of fields_of number
    no_units = refl

    refuses : Goal (Err refusal.Out)
    refuses a o =
        subst (λ (ps : List Passage). Joint x y f g (record { a = s.a; b = s.b; ab = record { passages = ps; taken = s.ab.taken }; ba = s.ba }))
        (sym (ap (λ (us : List (List ℕ)). s.ab.passages ++ passing us arrivals) no_units ∙ append-nil s.ab.passages)) j

    em : Emitted (Kind x) f g store s.a.hold s.a.handed j.e q j.inv.own j.left.stands j.left.kept j.left.formed (final j.c j.l)
        j.inv.to.tail live errors information small_errors small_information burst (sending.burst_flits q n) (moving.moved q n)
    em =
        emits_all (Kind x) f g store s.a.hold s.a.handed j.e q j.inv.own j.left.stands j.left.kept j.left.formed (final j.c j.l)
        j.inv.to.tail live errors information small_errors small_information

    wrote : flits_by (Ok tt) ≡ burst
    wrote = take_at burst (drop (length burst) output) (sending.burst_flits q n * 64) em.size

    goes : (ps : List Passage) → Sends (Kind x) f g store s.a.hold s.a.handed j.e (final j.c j.l) ps (moving.moved q n)
        → Joint x y f g
        (record {
          a = record { end = moving.moved q n; store = store; hold = s.a.hold; accepted = s.a.accepted; handed = s.a.handed };
          b = s.b;
          ab = put ps s.ab;
          ba = s.ba;
        })
    goes ps r =
        record {
          e = r.e';
          p = j.p;
          l = j.l ++ r.b;
          m = j.m;
          c = j.c;
          d = j.d;
          inv = inv;
          left =
              record {
                stands = r.stands;
                kept = r.kept;
                count = j.left.count ∙ sent_same r.does;
                formed = subst (Formed f) (sent_same r.does) j.left.formed;
                as_bytes = j.left.as_bytes;
                tidy = tidy_send j.left.tidy r.does;
              };
          right_end = j.right_end;
          there = on_wire f j.c j.l r.b s.ab ps j.there r.sized r.reads;
          here = j.here;
          clean = clean;
          clean' = λ t. receiver_sends most small g f j.p j.e j.m j.l j.d (Kind x) r.e' r.b r.does (j.clean' t);
          log = log;
          log' = j.log';
        }
      where
        inv : Inv most f g r.e' j.p (j.l ++ r.b) j.m j.c j.d
        inv = Send.send most f g (Kind x) j.e r.e' j.p j.l j.m r.b j.c j.d j.inv r.does

        clean : x ≡ true → Clean r.e' j.p (j.l ++ r.b) j.m j.c
        clean = clean_sends x f g j.e j.p r.e' j.l j.m r.b j.c r.does j.clean

        log : x ≡ true → handeds (flights (s.ab.passages ++ ps)) ≡ units (first f r.e'.s.sent)
        log t =
            let k = j.clean t in
            let k' = clean t in
            let z = final j.c j.l in
            let w = (Send.sends most f g (Kind x) j.e r.e' z r.b j.inv.own j.inv.to.tail r.does).wire in
            let here : z.pos ≡ j.e.s.sent = k.there ∙ k.all in
            let there : (final z r.b).pos ≡ r.e'.s.sent =
            ap (λ (v : Chain). v.pos) (sym (final_append j.c j.l r.b)) ∙ k'.there ∙ k'.all in
            ap (λ (v : List Flight). map as_handed (sents v)) (flights_append s.ab.passages ps)
            ∙ ap (map as_handed) (sents_append (flights s.ab.passages) (flights ps))
            ∙ map-append as_handed (sents (flights s.ab.passages)) (sents (flights ps))
            ∙ ap (λ (v : List (List ℕ)). v ++ handeds (flights ps)) (j.log t ∙ ap (λ (i : ℕ). units (first f i)) (sym here))
            ∙ units_along f z r.b (flights ps) w r.reads (straight_rest j.c j.l r.b k'.straight)
            ∙ ap (λ (i : ℕ). units (first f i)) there

    admits : Goal (Ok tt)
    admits a o =
        rw wrote (goes (passing (units_of burst) arrivals) (em.follows arrivals (rw wrote at a) (rw wrote at o)))

    pub out_short : length output < 640 → send.send_verdict q store (length output) ≡ Err refusal.Out
    unfolding send.send_verdict
    out_short h = simp (fine.store_ok, fine.state_ok, lt-ltb (length output) 640 h)

    pub out_long : 640 ≤ length output → send.send_verdict q store (length output) ≡ Ok tt
    unfolding send.send_verdict
    out_long h = simp (fine.store_ok, fine.state_ok, le-ltb (length output) 640 h, fine.up)

    pub by_sends : ArriveAll Arrives (units_of (flits_sent errors information output s.a)) arrivals
        → Oks (Kind x) (passing (units_of (flits_sent errors information output s.a)) arrivals)
        → Joint x y f g (calls (sends errors information output arrivals) s)
    unfolding send.send send.send_output
    by_sends = go (dec_lt (length output) 640)
      where
        go : Dec (length output < 640) → Goal (send.send_verdict q store (length output))
        go (yes h) = subst Goal (sym (out_short h)) refuses
        go (no h) = subst Goal (sym (out_long (omega arith))) admits

  -- ---- receive

  acked_same : {u v : Sender} {a : ℕ} → Step.Acked f u a v → u.accepted ≡ v.accepted
  acked_same (Step.keeps o b n l d k e) = refl
  acked_same (Step.passes o b n l d k e) = refl

  nacked_same : (na : Bool) (u : Sender) → u.accepted ≡ (Step.nacked na u).accepted
  nacked_same true u = refl
  nacked_same false u = refl

  discard_same : {u v : Sender} → Step.Discard u v → u.accepted ≡ v.accepted
  discard_same Step.more = refl
  discard_same Step.enough = refl

  took_same : {e e' : End} {i : Item} → Step.Receive f e i e' → e.s.accepted ≡ e'.s.accepted
  took_same (Step.holds m h) = refl
  took_same (Step.delivers m h p r) = acked_same r
  took_same (Step.repeats m h p r) = acked_same r
  took_same (Step.idling m h n r) = acked_same r
  took_same (Step.damaged m) = refl
  took_same (Step.replayed {na = na} {u = u} m h r) = acked_same r ∙ nacked_same na u
  took_same (Step.ahead_run {na = na} {u = u} m h r) = acked_same r ∙ nacked_same na u
  took_same (Step.ahead_wait {na = na} {u = u} m h r d) = acked_same r ∙ nacked_same na u ∙ discard_same d
  took_same (Step.discards m d) = discard_same d
  took_same (Step.falls h) = refl

  -- a receive of a flit is not refused
  pub in_long : (hold flit : List ℕ) → length hold ≡ 576 → length flit ≡ 64
      → receive.receive_verdict s.a.end s.a.store (length hold) (length flit) ≡ Ok tt
  unfolding receive.receive_verdict
  in_long hold flit h k = simp (fine.store_ok, h, fine.state_ok, k, fine.up)

  -- the answer to a flit
  pub answer_is : (hold flit : List ℕ) → length hold ≡ 576 → length flit ≡ 64
      → receive.answer_to s.a.end s.a.store hold flit
      ≡ mode_answer s.a.end.mode s.a.end (fields_of flit) (right (checked s.a.end hold flit))
  unfolding receive.answer_to
  answer_is hold flit h k = simp (in_long hold flit h k)

  -- the flit that stands next on the wire, and the item that it was meant as
  pub record Next : Type 0 where
    pub at : Located s.ba.passages s.ba.taken
    pub next_flight : Flight
    pub is_at : next_flight ≡ flight_at at.unit at.part
    pub same : flit next_flight ≡ oldest_flit s.ba
    pub lt : s.ba.taken < length (flights s.ba.passages)
    pub i : Item
    pub m' : List Item
    pub eq : j.m ≡ i ∷ m'
    pub reads : Reads g j.d.got i.flit i.ok next_flight
    pub rest : ReadsAll g (after j.d i) m' (drop (suc s.ba.taken) (flights s.ba.passages))

  pub next : on_the_way s.ba ≡ true → Next
  unfolding on_the_way
  next t = go j.m refl
    where
      lt : s.ba.taken < length (flights s.ba.passages)
      lt =
          let a = ltb-true (s.ba.taken * 64) (length (arriving s.ba.passages)) t in
          let b = length_arriving s.ba.passages j.here.sized in
          omega arith

      at : Located s.ba.passages s.ba.taken
      at = locate s.ba.passages s.ba.taken j.here.sized lt

      rd : ReadsAll g j.d j.m (get_or (flights s.ba.passages) s.ba.taken none ∷ drop (suc s.ba.taken) (flights s.ba.passages))
      rd = rw (drop-cons (flights s.ba.passages) s.ba.taken none lt) at j.here.reads

      go : (m : List Item) → j.m ≡ m → Next
      go [] e = absurd (rw e at rd)
      go (i ∷ m') e =
          let r = rw e at rd in
          record {
            at = at;
            next_flight = get_or (flights s.ba.passages) s.ba.taken none;
            is_at = at.flight;
            same = ap flit at.flight ∙ sym at.bytes;
            lt = lt;
            i = i;
            m' = m';
            eq = e;
            reads = r.0;
            rest = r.1;
          }

  module _ (nx : Next) where
    inv' : Inv most f g j.e j.p j.l (nx.i ∷ nx.m') j.c j.d
    inv' = rw nx.eq at j.inv

    size : length (oldest_flit s.ba) ≡ 64
    size = ap length (sym nx.same) ∙ reads_size g j.d.got nx.i.flit nx.i.ok nx.next_flight nx.reads

    given : Receive.Given most f g j.e j.d nx.i
    given = Receive.given most small f g j.e j.p j.l nx.m' j.c j.d nx.i inv'

    pub did : Followed f g s.a.store s.a.hold s.a.handed j.e nx.i s.a.end (oldest_flit s.ba)
        (receive.answer_to s.a.end s.a.store s.a.hold (oldest_flit s.ba))
    did =
        rw (answer_is s.a.hold (oldest_flit s.ba) j.left.kept.size size)
        (subst
        (λ (v : List ℕ). Followed f g s.a.store s.a.hold s.a.handed j.e nx.i s.a.end v
        (mode_answer s.a.end.mode s.a.end (fields_of v) (right (checked s.a.end s.a.hold v))))
        nx.same
        (follows f g s.a.store j.e j.d s.a.end s.a.hold s.a.handed j.left.formed j.left.stands j.left.kept j.left.tidy.owes
        nx.i nx.next_flight given nx.reads))

    took : Joint x y f g
        (record {
          a = receiving (oldest_flit s.ba) s.a;
          b = s.b;
          ab = s.ab;
          ba = take_one (oldest_flit s.ba) s.a s.ba;
        })
    unfolding receive.receive receive.receive_hold
    took =
        record {
          e = v.e';
          p = j.p;
          l = j.l;
          m = nx.m';
          c = j.c;
          d = after j.d nx.i;
          inv = Receive.receive most small f g j.e v.e' j.p j.l nx.m' j.c j.d nx.i inv' v.does;
          left =
              record {
                stands = v.stands;
                kept = v.kept;
                count = j.left.count ∙ took_same v.does;
                formed = subst (Formed f) (took_same v.does) j.left.formed;
                as_bytes = j.left.as_bytes;
                tidy = td;
              };
          right_end = j.right_end;
          there = j.there;
          here =
              record {
                sized = j.here.sized;
                le = rw (did.counts s.ba.taken) nx.lt;
                reads =
                    rw (did.counts s.ba.taken) nx.rest;
              };
          clean = λ t. sender_takes f g j.e j.p j.l nx.m' j.c v.e' nx.i v.does (rw nx.eq at j.clean t);
          clean' =
              λ t.
              receiver_takes most small g f j.p j.e nx.m' j.l j.d v.e' j.c nx.i inv' v.does
              (rw nx.eq at j.clean' t);
          log = λ t. j.log t ∙ ap (λ (n : ℕ). units (first f n)) (same_sent t);
          log' = j.log';
        }
      where
        v : Came f g s.a.store j.e nx.i
            (effects.end_after (receive.answer_to s.a.end s.a.store s.a.hold (oldest_flit s.ba)) s.a.end s.a.store (fields_of (oldest_flit s.ba)))
            (receive.hold_after (receive.answer_to s.a.end s.a.store s.a.hold (oldest_flit s.ba)) s.a.end s.a.hold (oldest_flit s.ba))
            (s.a.handed
            ++ handed_by (receive.answer_to s.a.end s.a.store s.a.hold (oldest_flit s.ba))
            (receive.hold_after (receive.answer_to s.a.end s.a.store s.a.hold (oldest_flit s.ba)) s.a.end s.a.hold (oldest_flit s.ba)))
        v = did.moves

        td : Tidy v.e'.r
        td =
            let gr : Grows (after j.d nx.i) (final (after j.d nx.i) nx.m') = grows most g (after j.d nx.i) nx.m' inv'.from.wire.1 in
            let hi : (after j.d nx.i).hi ≡ nx.i.hi = step_hi j.d nx.i.flit nx.i.lo nx.i.hi in
            let top : nx.i.hi ≤ j.p.s.accepted = omega (arith, gr.hi, hi, inv'.from.tail.hi, j.inv.other.given) in
            tidy_receive most small f g j.e v.e' j.d nx.i given (λ n le. owed_le g j.p.s.accepted n j.right_end.formed (omega arith)) j.left.tidy v.does

        same_sent : x ≡ true → j.e.s.sent ≡ v.e'.s.sent
        same_sent t =
            let k = rw nx.eq at j.clean t in
            let k' = sender_takes f g j.e j.p j.l nx.m' j.c v.e' nx.i v.does k in
            sym k.all ∙ sym k.there ∙ k'.there ∙ k'.all

  pub by_receives : Joint x y f g (calls receives s)
  by_receives = go (on_the_way s.ba) refl
    where
      go : (b : Bool) → on_the_way s.ba ≡ b → Joint x y f g (calls receives s)
      go true t = simp t (took (next t))
      go false t = simp t j
