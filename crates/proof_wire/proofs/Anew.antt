-- A replay flit on bytes does what it does on the abstract link: the acknowledge number is understood, and d = wanted - start is under half
-- exactly when the replay does not start past wanted.
use mathlib.Core.Path.{◌≡◌, refl, ap, ap₂, sym, subst, ◌∙◌}
use mathlib.Core.Bool.{Bool, true, false, cond}
use mathlib.Core.Logic.{◌≢◌}
use mathlib.Core.List.{List, [], ◌++◌}
use Prim.Native.Nat.{ℕ, ◌+◌, ◌-◌, ◌^◌, ◌≤◌, ◌<◌}
use native.Mathlib.Nat.{mod-lt}
use native.Mathlib.Omega.{arith}
use native.Mathlib.Decide.{dec_le, ℕ_discrete}
use borrow.Author.Tests.{lt-ltb, le-ltb, eq-eqb, ne_eqb}
use lib.Dec.{ltb}
use lib.Pow.{pow_pos}
use Rattle.flit_number.specs.Numbers.{width, difference, wanted_by}
use Rattle.flit_number.proofs.Laws.{wanted_told}
use Rattle.flit_read.specs.Fields.{fields_of}
use Rattle.flit_read.specs.declared.Fields.{Fields}
use Rattle.end_state.specs.declared.End.{End as KeptEnd}
use Rattle.end_state.specs.declared.Mode.{Mode as KeptMode}
use Rattle.end_state.specs.declared.Mode.TheVariants.{Run, Wait}
use Rattle.receive_test.specs.Arrivals.{behind, newly_covered, past_sent}
use Rattle.receive_answer.specs.Answers.{half, replay_answer}
use Rattle.receive_answer.specs.declared.Answer.{Answer}
use Rattle.receive_answer.specs.declared.Answer.TheVariants as answer
use Rattle.receive_free.specs.Acknowledge.{sent_anew, acknowledged}
use Rattle.receive_take.specs.Taken.{informed, replay_taken}
use Rattle.receive_state.specs.Effects.{waiting, discarded, ahead_in, end_after}
use Rattle.receive.specs.Receive.{hold_after}
use Rattle.proof_model.proofs.Stream.{Stream, num, replay}
use Rattle.proof_model.proofs.End.{Mode, run, wait, down, End}
use Rattle.proof_model.proofs.Step
use Rattle.proof_model.proofs.Step.{item, again, more, enough, replayed, ahead_run, ahead_wait, discards}
use Rattle.proof_model.proofs.Num.{num_le, num_lt}
use Rattle.proof_model.proofs.Chain.{Chain}
use Rattle.proof_model.proofs.Inv.{Local}
use Rattle.proof_model.proofs.Receive.{Given}
use Rattle.proof_wire.proofs.Wrap.{meaning, wrap, most, difference_up, difference_down}
use Rattle.proof_wire.proofs.Stands.{restand, Stands, Formed}
use Rattle.proof_wire.proofs.Credit.{Same, Credited, credits, nacked_stands, pending_stands}
use Rattle.proof_wire.proofs.Says.{patience, Flight, flit, SaysReplay, mode_of, units, Kept}
use Rattle.proof_wire.proofs.Arrive
use Rattle.proof_wire.proofs.Arrive.{Came, Followed, same_nacked}

module _ (f g : Stream) (store : List ℕ) (e : End) (d : Chain) (q : KeptEnd) (hold : List ℕ) (handed : List (List ℕ))
    (fo : Formed f e.s.accepted) (st : Stands f store e.s q) (k : Kept g e.r q hold handed) (small : e.r.owes ≤ 8)
  where
    out_same : handed ++ [] ≡ units e.r.out
    out_same = Arrive.out_same f g store e d q hold handed fo st k small

    in_order : (n : ℕ) → Local most f e.s → e.s.acked + n ≤ num f e.s.sent → past_sent q n ≡ false
    in_order = Arrive.in_order f g store e d q hold handed fo st k small

    -- ---- a replay flit
    module _ (y : Flight) (p n t lo hi : ℕ) (na bt : Bool) (w : Given most f g e d (item (replay na p n bt t) true lo hi)) (s : SaysReplay g na p n bt t (flit y)) where
      abbrev x : Fields
      x = fields_of (flit y)

      abbrev Goal : Answer → Type 0
      Goal A = Followed f g store hold handed e (item (replay na p n bt t) true lo hi) q (flit y) A

      lower : e.s.acked ≤ t
      lower = omega (arith, w.head.acked, w.fits.fit.grows)

      upper : t ≤ num f e.s.sent
      upper = w.limit

      top : num f e.s.sent ≤ num f e.s.accepted
      top = num_le f e.s.sent e.s.accepted w.own.given

      new : newly_covered q x.last.0 ≡ t - e.s.acked
      unfolding newly_covered
      new =
          ap₂ (difference width) (ap (wanted_by meaning width) s.last ∙ wanted_told width meaning (wrap t) (mod-lt t (pow_pos width))) st.acked
          ∙ difference_up width t e.s.acked lower (omega (arith, upper, top, w.own.fits, w.own.freed))

      sum : e.s.acked + (t - e.s.acked) ≡ t
      sum = omega (arith, lower)

      le : e.s.acked + (t - e.s.acked) ≤ num f e.s.sent
      le = omega (arith, lower, upper)

      abbrev told : KeptEnd
      told = acknowledged q store (newly_covered q x.last.0)

      c : Credited f store e.s t q told
      c =
          rw new
          (subst (λ (z : ℕ). Credited f store e.s z q (acknowledged q store (t - e.s.acked))) sum
          (credits f store e.s q w.own st fo (t - e.s.acked) le))

      abbrev asked : KeptEnd
      asked = sent_anew x.nack (informed x.information told)

      asked_stands : Stands f store (Step.nacked na c.t) asked
      asked_stands =
          rw s.nack
          (nacked_stands f store c.t (informed x.information told) na
          (restand f store c.t told _ refl c.stands))

      asked_same : Same (informed x.information told) asked
      asked_same = same_nacked x.nack (informed x.information told)

      wanted_is : asked.wanted.0 ≡ wrap (num g e.r.wanted)
      wanted_is = ap (λ v. v.0) (asked_same.wanted ∙ c.same.wanted) ∙ k.wanted

      untold_is : asked.untold.0 ≡ e.r.untold
      untold_is = ap (λ v. v.0) (asked_same.untold ∙ c.same.untold) ∙ k.untold

      discards_is : asked.discards ≡ q.discards
      discards_is = asked_same.discards ∙ c.same.discards

      mode_is : asked.mode ≡ q.mode
      mode_is = asked_same.mode ∙ c.same.mode

      hi_le : num g e.r.wanted ≤ num g hi
      hi_le = num_le g e.r.wanted hi (omega (arith, w.head.hi, w.fits.hi))

      lo_le : num g lo ≤ num g p
      lo_le = num_le g lo p w.fits.fit.above

      start_le : num g p ≤ num g hi
      start_le = num_le g p hi w.fits.fit.below

      answers : replay_answer q x ≡ cond (ltb (behind q x.start.0) half) answer.Replayed answer.Ahead
      unfolding replay_answer
      answers = simp (s.short, le-ltb 8 x.previous.0 (omega (arith, s.owes, s.le)), new, in_order (t - e.s.acked) w.own le)

      placed_kept : (mo : Mode) (pl : KeptEnd) → pl.mode ≡ mode_of mo → pl.wanted.0 ≡ asked.wanted.0 → pl.position.0 ≡ x.start.0
          → pl.owed.0 ≡ x.previous.0 → pl.stalled ≡ x.stalled → pl.gathered.0 ≡ 0 → pl.untold.0 ≡ asked.untold.0 → pl.discards < patience
          → Kept g (Step.placed mo p n bt e.r) pl hold (handed ++ [])
      placed_kept mo pl h1 h2 h3 h4 h5 h6 h7 h8 =
          record {
            mode = h1;
            wanted = h2 ∙ wanted_is;
            position = h3 ∙ s.start;
            owes = h4 ∙ s.owes;
            stalled = h5 ∙ s.stalled;
            gathered = h6;
            untold = h7 ∙ untold_is;
            discards = h8;
            held = refl;
            size = k.size;
            out = out_same;
          }

      replayed_it : (mo : Mode) → mo ≢ down → e.r.mode ≡ mo → p ≤ e.r.wanted → Goal (replay_answer q x)
      unfolding end_after hold_after replay_taken
      replayed_it mo live m h =
          let z : num g p ≤ num g e.r.wanted = num_le g p e.r.wanted h in
          let bk : behind q x.start.0 ≡ num g e.r.wanted - num g p =
          ap₂ (difference width) k.wanted s.start
          ∙ difference_up width (num g e.r.wanted) (num g p) z (omega (arith, hi_le, lo_le, w.fits.span)) in
          simp (answers, lt-ltb (behind q x.start.0) half (omega (arith, hi_le, lo_le, w.fits.span)))
          (record {
            moves =
                record {
                  e' = record { s = Step.nacked na c.t; r = Step.placed run p n bt e.r };
                  does = replayed (λ v. live (sym m ∙ v)) h c.acks;
                  stands =
                      restand f store (Step.nacked na c.t) asked _ refl asked_stands;
                  kept = placed_kept run _ refl refl refl refl refl refl refl (omega arith);
                };
            counts = λ v. refl;
            hands = tt;
          })

      ahead_runs : e.r.mode ≡ run → e.r.wanted < p
          → Came f g store e (item (replay na p n bt t) true lo hi) (ahead_in Run (replay_taken q store x)) hold (handed ++ [])
      unfolding waiting replay_taken
      ahead_runs m h =
          record {
            e' = record { s = again (Step.nacked na c.t); r = Step.placed wait p n bt e.r };
            does = ahead_run m h c.acks;
            stands =
                restand f store (again (Step.nacked na c.t)) _ _ refl (pending_stands f store (Step.nacked na c.t) asked asked_stands);
            kept = placed_kept wait _ refl refl refl refl refl refl refl (omega arith);
          }

      ahead_waits : e.r.mode ≡ wait → e.r.wanted < p
          → Came f g store e (item (replay na p n bt t) true lo hi) (ahead_in Wait (replay_taken q store x)) hold (handed ++ [])
      unfolding discarded replay_taken
      ahead_waits m h = go (ℕ_discrete (asked.discards + 1) patience)
        where
          still : asked.mode ≡ Wait
          still = mode_is ∙ k.mode ∙ ap mode_of m

          go : Dec (asked.discards + 1 ≡ patience)
              → Came f g store e (item (replay na p n bt t) true lo hi) (discarded (replay_taken q store x)) hold (handed ++ [])
          go (yes u) =
              simp (eq-eqb (asked.discards + 1) patience u)
              (record {
                e' = record { s = again (Step.nacked na c.t); r = Step.placed wait p n bt e.r };
                does = ahead_wait m h c.acks enough;
                stands =
                    restand f store (again (Step.nacked na c.t)) _ _ refl (pending_stands f store (Step.nacked na c.t) asked asked_stands);
                kept = placed_kept wait _ still refl refl refl refl refl refl (omega arith);
              })
          go (no u) =
              simp (ne_eqb (asked.discards + 1) patience u)
              (record {
                e' = record { s = Step.nacked na c.t; r = Step.placed wait p n bt e.r };
                does = ahead_wait m h c.acks more;
                stands =
                    restand f store (Step.nacked na c.t) asked _ refl asked_stands;
                kept = placed_kept wait _ still refl refl refl refl refl refl (omega (arith, k.discards, discards_is));
              })

      ahead_it : (mo : Mode) → mo ≢ down → e.r.mode ≡ mo → e.r.wanted < p → Goal (replay_answer q x)
      unfolding end_after hold_after
      ahead_it mo live m h =
          let z : num g e.r.wanted < num g p = num_lt g e.r.wanted p h in
          let bk : behind q x.start.0 ≡ 2 ^ width - (num g p - num g e.r.wanted) =
          ap₂ (difference width) k.wanted s.start
          ∙ difference_down width (num g e.r.wanted) (num g p) z (omega (arith, start_le, w.near, w.fits.span)) in
          simp (answers, le-ltb (behind q x.start.0) half (omega (arith, start_le, w.near, w.fits.span)))
          (record {
            moves =
                subst (λ (v : KeptMode). Came f g store e (item (replay na p n bt t) true lo hi) (ahead_in v (replay_taken q store x)) hold (handed ++ []))
                (sym (k.mode ∙ ap mode_of m)) (go mo live m);
            counts = λ v. refl;
            hands = tt;
          })
        where
          go : (mo : Mode) → mo ≢ down → e.r.mode ≡ mo
              → Came f g store e (item (replay na p n bt t) true lo hi) (ahead_in (mode_of mo) (replay_taken q store x)) hold (handed ++ [])
          go run live m = ahead_runs m h
          go wait live m = ahead_waits m h
          go down live m = absurd (live refl)

      pub on_replay : (mo : Mode) → mo ≢ down → e.r.mode ≡ mo → Goal (replay_answer q x)
      on_replay mo live m = go (dec_le p e.r.wanted)
        where
          go : Dec (p ≤ e.r.wanted) → Goal (replay_answer q x)
          go (yes h) = replayed_it mo live m h
          go (no h) = ahead_it mo live m (omega arith)
