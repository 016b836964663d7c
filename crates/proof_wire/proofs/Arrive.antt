-- Receive on bytes does what the abstract receive does: for each flit that can stand next on a wire between two honest ends, the answer,
-- and then the state, the hold and what is handed on.
use mathlib.Core.Path.{◌≡◌, refl, ap, ap₂, sym, subst, ◌∙◌}
use mathlib.Core.Bool.{Bool, true, false, not, cond}
use mathlib.Core.Logic.{◌≢◌}
use mathlib.Core.List.{List, [], ◌∷◌, ◌++◌, append-nil}
use Prim.Native.Nat.{ℕ, suc, ◌+◌, ◌-◌, ◌*◌, ◌%◌, ◌^◌, ◌≤◌, ◌<◌}
use native.Mathlib.Omega.{arith}
use native.Mathlib.Decide.{ℕ_discrete}
use borrow.Author.Tests.{le-ltb, eq-eqb, ne_eqb}
use lib.Dec.{ltb, eqb}
use lib.ListN.{length, take, length-append}
use lib.Seq.{length-take-le}
use Rattle.flit_number.specs.Numbers.{width, after, difference}
use Rattle.flit_read.specs.Bytes.{bytes}
use Rattle.flit_read.specs.Fields.{fields_of, content, replay_kind as replay_run, idle_kind as idle_run}
use Rattle.flit_write.specs.Flits.{bare_control}
use Rattle.flit_read.specs.declared.Fields.{Fields}
use Rattle.flit_read.proofs.Laws.{length_bytes}
use Rattle.end_state.specs.Ring.{put_at}
use Rattle.end_state.specs.declared.End.{End as KeptEnd}
use Rattle.end_state.proofs.Places.{put_length}
use Rattle.receive_test.specs.Arrivals.{holds, damaged, straddles, behind, past_sent}
use Rattle.receive_answer.specs.Answers.{plain_answer, run_answer}
use Rattle.receive_answer.specs.declared.Cause.TheVariants as cause
use Rattle.receive_answer.specs.declared.Answer.{Answer}
use Rattle.receive_answer.specs.declared.Answer.TheVariants as answer
use Rattle.receive_free.specs.Acknowledge.{sent_anew, acknowledged}
use Rattle.receive_take.specs.Taken.{closed, delivered}
use Rattle.receive_state.specs.Effects.{waiting, discarded, end_after}
use Rattle.receive.specs.Receive.{hold_after}
use Rattle.proof_model.proofs.Stream.{Stream, owed, num, some, Flit, Item, part, control, idle}
use Rattle.proof_model.proofs.End.{run, wait, Receiver, End}
use Rattle.proof_model.proofs.Step
use Rattle.proof_model.proofs.Step.{item, again, more, enough, Receive, holds as holds_step, delivers, repeats, idling, damaged as damaged_step, discards}
use Rattle.proof_model.proofs.Num.{num_le}
use Rattle.proof_model.proofs.Chain.{Chain, Rest}
use Rattle.proof_model.proofs.Inv.{Local, Runs, At, Head}
use Rattle.proof_model.proofs.Receive.{Given}
use Rattle.proof_wire.specs.System.{arrived_by, handed_by}
use Rattle.proof_wire.proofs.Pieces.{joined, joined_snoc, put_front}
use Rattle.proof_wire.proofs.Wrap.{wrap, most, after_wrap, difference_up}
use Rattle.proof_wire.proofs.Stands.{restand, Stands, Formed}
use Rattle.proof_wire.proofs.Credit.{Same, Credited, credits, pending_stands}
use Rattle.proof_wire.proofs.Says.{patience, Flight, flit, SaysControl, SaysIdle, ReadsPart, units, units_append, Kept}
use Rattle.proof_wire.proofs.Looks

-- ---- what a receive comes to

pub record Came (f g : Stream) (store : List ℕ) (e : End) (i : Item) (p : KeptEnd) (hold : List ℕ) (handed : List (List ℕ)) : Type 0 where
  pub e' : End
  pub does : Receive f e i e'
  pub stands : Stands f store e'.s p
  pub kept : Kept g e'.r p hold handed

-- a delivery is of a right unit
abbrev pub IsControl : Flit → Type 0
IsControl (control b n k st) = Unit {0}
IsControl _ = ⊥

-- and of the data flits held, with the flit x as its control flit
abbrev pub Hands : Answer → Item → Receiver → List ℕ → List ℕ → Type 0
Hands (answer.Delivered n) i r hold x =
    (i.ok ≡ true) × IsControl i.flit × (r.mode ≡ run) × (take (suc n.0 * 64) hold ≡ joined r.hold ++ bare_control x)
Hands (answer.Refused why) i r hold x = ⊥
Hands (answer.Down why) i r hold x = ⊥
Hands _ i r hold x = Unit {0}

pub record Followed (f g : Stream) (store hold : List ℕ) (handed : List (List ℕ)) (e : End) (i : Item) (q : KeptEnd) (x : List ℕ) (A : Answer) : Type 0 where
  pub moves : Came f g store e i (end_after A q store (fields_of x)) (hold_after A q hold x) (handed ++ handed_by A (hold_after A q hold x))
  pub counts : (n : ℕ) → arrived_by A n ≡ suc n
  pub hands : Hands A i e.r (hold_after A q hold x) x

pub bare_size : (x : List ℕ) → length x ≡ 64 → length (bare_control x) ≡ 64
unfolding bare_control
bare_size x h =
    length-append (take 56 x) (bytes 8 (content x % 2 ^ 18))
    ∙ ap₂ (λ (m n : ℕ). m + n) (length-take-le 56 x (omega arith)) (length_bytes 8 (content x % 2 ^ 18))

pub same_nacked : (b : Bool) (p : KeptEnd) → Same p (sent_anew b p)
same_nacked true p = record { owed = refl; gathered = refl; untold = refl; discards = refl; wanted = refl; position = refl; stalled = refl; mode = refl }
same_nacked false p = record { owed = refl; gathered = refl; untold = refl; discards = refl; wanted = refl; position = refl; stalled = refl; mode = refl }

module _ (f g : Stream) (store : List ℕ) (e : End) (d : Chain) (q : KeptEnd) (hold : List ℕ) (handed : List (List ℕ))
    (fo : Formed f e.s.accepted) (st : Stands f store e.s q) (k : Kept g e.r q hold handed) (small : e.r.owes ≤ 8)
  where
    pub runs : Head g d e → e.r.mode ≡ run → Runs g d e.s.acked e.r
    runs h m = subst (At g d e.s.acked e.r) m h.at

    pub out_same : handed ++ [] ≡ units e.r.out
    out_same = append-nil handed ∙ k.out

    -- ---- tests

    -- an acknowledgement that is in order
    pub in_order : (n : ℕ) → Local most f e.s → e.s.acked + n ≤ num f e.s.sent → past_sent q n ≡ false
    unfolding past_sent
    in_order n l h =
        let a : num f e.s.sent ≤ num f e.s.accepted = num_le f e.s.sent e.s.accepted l.given in
        let b : difference width q.sent.0 q.acknowledged.0 ≡ num f e.s.sent - e.s.acked =
        ap₂ (difference width) st.sent st.acked
        ∙ difference_up width (num f e.s.sent) e.s.acked l.past (omega (arith, l.fits, l.freed)) in
        le-ltb (difference width q.sent.0 q.acknowledged.0) n (omega arith)

    pub alone_of : Runs g d e.s.acked e.r → Rest g d → Step.Alone e.r
    alone_of r i = (r.hold ∙ i.none, cc (r.bit, i.bit, r.owes))

    pub none_gathered : e.r.hold ≡ [] → q.gathered.0 ≡ 0
    none_gathered h = k.gathered ∙ ap length h

    pub rest_bit : e.r.stalled ≡ some e.r.owes → q.stalled ≡ some q.owed.0
    rest_bit h = k.stalled ∙ h ∙ ap some (sym k.owes)

    -- ---- the flit is held
    pub on_part : (v : List ℕ) (y : Flight) (lo hi : ℕ) (ok c : Bool) → Given most f g e d (item (part v) ok lo hi) → e.r.mode ≡ run → ReadsPart v y
        → Followed f g store hold handed e (item (part v) ok lo hi) q (flit y) (run_answer q (fields_of (flit y)) c)
    unfolding run_answer end_after hold_after
    on_part v y lo hi ok c w m h =
        let r = runs w.head m in
        let i = w.fits.fit in
        let b : e.r.stalled ≡ false = r.bit ∙ i.bit in
        let l : length e.r.hold < e.r.owes = rw (r.hold, r.owes) i.room in
        let z : suc (length e.r.hold) ≡ length (e.r.hold ++ (v ∷ [])) = sym (length-append e.r.hold (v ∷ []) ∙ omega arith) in
        let big : q.gathered.0 * 64 + 64 ≤ length hold = omega (arith, k.gathered, k.size) in
        let fr = put_front hold q.gathered.0 (flit y) big h.size in
        simp (Looks.holds_yes q (k.stalled ∙ b) (omega (arith, k.gathered, k.owes)))
        (record {
          moves =
              record {
                e' = record { s = e.s; r = Step.holding v e.r };
                does = holds_step m (b, l);
                stands =
                    restand f store e.s q _ refl st;
                kept =
                    record {
                      mode = k.mode;
                      wanted = k.wanted;
                      position = k.position;
                      owes = k.owes;
                      stalled = k.stalled;
                      gathered = ap (λ (n : ℕ). n + 1) k.gathered ∙ omega (arith, z);
                      untold = k.untold;
                      discards = k.discards;
                      held =
                          ap (λ (n : ℕ). take (n * 64) (put_at hold q.gathered.0 (flit y))) (sym z ∙ ap suc (sym k.gathered))
                          ∙ fr
                          ∙ ap₂ (λ (l x : List ℕ). l ++ x) (ap (λ (n : ℕ). take (n * 64) hold) k.gathered ∙ k.held) (sym h.same)
                          ∙ sym (joined_snoc e.r.hold v);
                      size = put_length hold (flit y) q.gathered.0 big h.size ∙ k.size;
                      out = out_same;
                    };
              };
          counts = λ n. refl;
          hands = tt;
        })

    -- ---- damage
    pub on_spoiled : (x : Flit) (y : List ℕ) (lo hi : ℕ) → e.r.mode ≡ run → holds q ≡ false
        → Followed f g store hold handed e (item x false lo hi) q y (run_answer q (fields_of y) false)
    unfolding run_answer damaged end_after hold_after waiting
    on_spoiled x y lo hi m t =
        simp t
        (record {
          moves =
              record {
                e' = record { s = again e.s; r = Step.waiting e.r };
                does = damaged_step m;
                stands =
                    restand f store (again e.s) _ _ refl (pending_stands f store e.s q st);
                kept =
                    record {
                      mode = refl;
                      wanted = k.wanted;
                      position = k.position;
                      owes = k.owes;
                      stalled = k.stalled;
                      gathered = refl;
                      untold = k.untold;
                      discards = omega arith;
                      held = refl;
                      size = k.size;
                      out = out_same;
                    };
              };
          counts = λ n. refl;
          hands = tt;
        })

    -- ---- discarded in mode wait
    pub on_skip : (i : Item) (y : List ℕ) → e.r.mode ≡ wait → Followed f g store hold handed e i q y answer.Discarded
    unfolding end_after hold_after discarded
    on_skip i y m = record { moves = go (ℕ_discrete (q.discards + 1) patience); counts = λ n. refl; hands = tt }
      where
        go : Dec (q.discards + 1 ≡ patience) → Came f g store e i (discarded q) hold (handed ++ [])
        go (yes h) =
            simp (eq-eqb (q.discards + 1) patience h)
            (record {
              e' = record { s = again e.s; r = e.r };
              does = discards m enough;
              stands =
                  restand f store (again e.s) _ _ refl (pending_stands f store e.s q st);
              kept =
                  record {
                    mode = k.mode;
                    wanted = k.wanted;
                    position = k.position;
                    owes = k.owes;
                    stalled = k.stalled;
                    gathered = k.gathered;
                    untold = k.untold;
                    discards = omega arith;
                    held = k.held;
                    size = k.size;
                    out = out_same;
                  };
            })
        go (no h) =
            simp (ne_eqb (q.discards + 1) patience h)
            (record {
              e' = record { s = e.s; r = e.r };
              does = discards m more;
              stands =
                  restand f store e.s q _ refl st;
              kept =
                  record {
                    mode = k.mode;
                    wanted = k.wanted;
                    position = k.position;
                    owes = k.owes;
                    stalled = k.stalled;
                    gathered = k.gathered;
                    untold = k.untold;
                    discards = omega (arith, k.discards);
                    held = k.held;
                    size = k.size;
                    out = out_same;
                  };
            })

    -- ---- idle
    pub on_idle : (y : Flight) (n a lo hi : ℕ) (b : Bool) → Given most f g e d (item (idle a b n) true lo hi) → e.r.mode ≡ run → SaysIdle n a b (flit y)
        → Followed f g store hold handed e (item (idle a b n) true lo hi) q (flit y) (run_answer q (fields_of (flit y)) true)
    unfolding run_answer plain_answer end_after hold_after
    on_idle y n a lo hi b w m s =
        let r = runs w.head m in
        let i = w.fits.fit in
        let x = fields_of (flit y) in
        let z = alone_of r i.rest in
        let o : n ≡ e.r.owes = cc (i.run, r.owes) in
        let le : e.s.acked + a ≤ num f e.s.sent = omega (arith, r.told, w.limit) in
        let c : Credited f store e.s (e.s.acked + a) q (acknowledged q store x.acks.0) =
        rw s.acks (credits f store e.s q w.own st fo a le) in
        let cl = Looks.closes_rest q (rest_bit z.1) in
        let sm = c.same in
        simp (
          Looks.holds_rest q (none_gathered z.0) (rest_bit z.1),
          Looks.damaged_idle q x s.run (s.owes ∙ o ∙ sym k.owes) cl,
          Looks.skips_known q x 15 s.run refl,
          s.run,
          s.short,
          ap (past_sent q) s.acks ∙ in_order a w.own le,
        )
        (record {
          moves =
              record {
                e' = record { s = c.t; r = Step.idled b e.r };
                does = idling m z o c.acks;
                stands =
                    restand f store c.t (acknowledged q store x.acks.0) _ refl c.stands;
                kept =
                    record {
                      mode = sm.mode ∙ k.mode;
                      wanted = ap (λ v. v.0) sm.wanted ∙ k.wanted;
                      position = ap (λ v. v.0) sm.position ∙ k.position;
                      owes = ap (λ v. v.0) sm.owed ∙ k.owes;
                      stalled = s.stalled;
                      gathered = ap (λ v. v.0) sm.gathered ∙ k.gathered;
                      untold = ap (λ v. v.0) sm.untold ∙ k.untold;
                      discards = rw sm.discards k.discards;
                      held = k.held;
                      size = k.size;
                      out = out_same;
                    };
              };
          counts = λ t. refl;
          hands = tt;
        })

    -- ---- a control flit with its data
    module _ (y : Flight) (b : List ℕ) (n a lo hi : ℕ) (bt : Bool) (w : Given most f g e d (item (control b n a bt) true lo hi)) (m : e.r.mode ≡ run)
        (s : SaysControl b n a bt (flit y)) (size : length (flit y) ≡ 64)
      where
        r : Runs g d e.s.acked e.r
        r = runs w.head m

        abbrev x : Fields
        x = fields_of (flit y)

        bit : e.r.stalled ≡ false
        bit = r.bit ∙ w.fits.fit.bit

        len : length e.r.hold ≡ e.r.owes
        len = cc (r.hold, w.fits.fit.full, r.owes)

        owed_here : length e.r.hold ≡ owed g e.r.position
        owed_here = cc (r.hold, w.fits.fit.full, r.pos)

        le : e.s.acked + a ≤ num f e.s.sent
        le = omega (arith, r.told, w.limit)

        full : q.gathered.0 ≡ q.owed.0
        full = k.gathered ∙ len ∙ sym k.owes

        up : num g e.r.position ≤ num g e.r.wanted
        up = num_le g e.r.position e.r.wanted r.behind

        close : num g e.r.wanted ≤ num g e.r.position + most
        close =
            let i = w.fits in
            let h = w.head in
            let p = r.pos in
            let u : num g e.r.wanted ≤ num g hi = num_le g e.r.wanted hi (omega arith) in
            let v : num g lo ≤ num g e.r.position = num_le g lo e.r.position (omega (arith, i.fit.above)) in
            omega (arith, i.span)

        back_by : behind q q.position.0 ≡ num g e.r.wanted - num g e.r.position
        back_by =
            ap₂ (difference width) k.wanted k.position
            ∙ difference_up width (num g e.r.wanted) (num g e.r.position) up (omega (arith, close))

        c : Credited f store e.s (e.s.acked + a) q (acknowledged q store x.acks.0)
        c = rw s.acks (credits f store e.s q w.own st fo a le)

        run_le : x.run.0 ≤ 8
        run_le = omega (arith, s.run, s.le)

        -- past the unit that begins at border u
        forward : (v u : ℕ) → v ≡ wrap (num g u) → owed g u ≡ length e.r.hold → after width v (q.gathered.0 + 1) ≡ wrap (num g (suc u))
        forward v u h o =
            ap₂ (after width) h (ap (λ (t : ℕ). t + 1) k.gathered) ∙ after_wrap width (num g u) (length e.r.hold + 1) ∙ ap wrap (sum u o)
          where
            sum : (u : ℕ) → owed g u ≡ length e.r.hold → num g u + (length e.r.hold + 1) ≡ suc (num g u + owed g u)
            sum u o = omega arith

        -- what comes before the answer
        abbrev Goal : Answer → Type 0
        Goal A = Followed f g store hold handed e (item (control b n a bt) true lo hi) q (flit y) A

        admits : straddles q x ≡ false → run_answer q x true ≡ cond (not (eqb q.position.0 q.wanted.0)) answer.Duplicate
            (cond (ltb 1024 (q.untold.0 + (q.gathered.0 + 1))) (answer.Down cause.Untold) (answer.Delivered q.gathered))
        unfolding run_answer plain_answer
        admits sd =
            simp (
              Looks.holds_full q full,
              Looks.damaged_control q x (k.stalled ∙ bit) run_le sd,
              Looks.skips_control q x run_le,
              ne_eqb x.run.0 replay_run (λ z. omega (arith, run_le)),
              s.short,
              s.acks,
              in_order a w.own le,
              ne_eqb x.run.0 idle_run (λ z. omega (arith, run_le)),
            )

        delivers_it : e.r.position ≡ e.r.wanted → Goal (run_answer q x true)
        unfolding end_after hold_after delivered closed
        delivers_it p =
            let z : num g e.r.position ≡ num g e.r.wanted = ap (num g) p in
            let nx : num g (suc e.r.wanted) ≤ num g hi = num_le g (suc e.r.wanted) hi (omega (arith, w.fits.fit.below, r.pos)) in
            let sw : owed g e.r.wanted ≡ length e.r.hold = cc (owed_here, p) in
            let ov : q.untold.0 + (q.gathered.0 + 1) ≤ 1024 = omega (arith, w.room, k.untold, k.gathered) in
            let at : q.position.0 ≡ q.wanted.0 = k.position ∙ ap wrap z ∙ sym k.wanted in
            let sm = c.same in
            let big : q.gathered.0 * 64 + 64 ≤ length hold = omega (arith, k.gathered, k.size, len) in
            let bs = bare_size (flit y) size in
            let put = put_front hold q.gathered.0 (bare_control (flit y)) big bs in
            let unit : take (suc q.gathered.0 * 64) (put_at hold q.gathered.0 (bare_control (flit y))) ≡ joined e.r.hold ++ b =
            put ∙ ap₂ (λ (l v : List ℕ). l ++ v) (ap (λ (t : ℕ). take (t * 64) hold) k.gathered ∙ k.held) s.bare in
            simp (
              admits (Looks.straddles_none q x (omega (arith, back_by))),
              eq-eqb q.position.0 q.wanted.0 at,
              le-ltb 1024 (q.untold.0 + (q.gathered.0 + 1)) ov,
            )
            (record {
              moves =
                  record {
                    e' = record { s = c.t; r = Step.delivered b n bt e.r };
                    does = delivers m (bit, len) p c.acks;
                    stands =
                        restand f store c.t (acknowledged q store x.acks.0) _ refl c.stands;
                    kept =
                        record {
                          mode = sm.mode ∙ k.mode;
                          wanted = forward q.wanted.0 e.r.wanted k.wanted sw;
                          position = forward q.position.0 e.r.position k.position (sym owed_here);
                          owes = s.run;
                          stalled = s.stalled;
                          gathered = refl;
                          untold = omega (arith, k.untold, k.gathered);
                          discards = rw sm.discards k.discards;
                          held = refl;
                          size = put_length hold (bare_control (flit y)) q.gathered.0 big bs ∙ k.size;
                          out =
                              ap₂ (λ (l : List (List ℕ)) (v : List ℕ). l ++ (v ∷ [])) k.out unit
                              ∙ sym (units_append e.r.out (record { parts = e.r.hold; body = b; run = n } ∷ []));
                        };
                  };
              counts = λ t. refl;
              hands = (refl, tt, m, put ∙ ap (λ (v : List ℕ). v ++ bare_control (flit y)) (ap (λ (t : ℕ). take (t * 64) hold) k.gathered ∙ k.held));
            })

        repeats_it : e.r.position ≢ e.r.wanted → Goal (run_answer q x true)
        unfolding end_after hold_after closed
        repeats_it p =
            let lt : num g (suc e.r.position) ≤ num g e.r.wanted = num_le g (suc e.r.position) e.r.wanted (omega (arith, r.behind)) in
            let far : wrap (num g e.r.position) ≢ wrap (num g e.r.wanted) = omega (arith, close) in
            let sm = c.same in
            simp (
              admits (Looks.straddles_before q x (omega (arith, back_by, k.gathered, owed_here))),
              ne_eqb q.position.0 q.wanted.0 (λ z. far (sym k.position ∙ z ∙ k.wanted)),
            )
            (record {
              moves =
                  record {
                    e' = record { s = c.t; r = Step.duplicate n bt e.r };
                    does = repeats m (bit, len) p c.acks;
                    stands =
                        restand f store c.t (acknowledged q store x.acks.0) _ refl c.stands;
                    kept =
                        record {
                          mode = sm.mode ∙ k.mode;
                          wanted = ap (λ v. v.0) sm.wanted ∙ k.wanted;
                          position = forward q.position.0 e.r.position k.position (sym owed_here);
                          owes = s.run;
                          stalled = s.stalled;
                          gathered = refl;
                          untold = ap (λ v. v.0) sm.untold ∙ k.untold;
                          discards = rw sm.discards k.discards;
                          held = refl;
                          size = k.size;
                          out = out_same;
                        };
                  };
              counts = λ t. refl;
              hands = tt;
            })

        pub on_control : Goal (run_answer q x true)
        on_control = go (ℕ_discrete e.r.position e.r.wanted)
          where
            go : Dec (e.r.position ≡ e.r.wanted) → Goal (run_answer q x true)
            go (yes p) = delivers_it p
            go (no p) = repeats_it p
