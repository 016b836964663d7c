-- The whole of receive: whatever flit stands next on the wire, in mode run and in mode wait, receive on bytes does what the abstract
-- receive does.
use mathlib.Core.Path.{◌≡◌, refl, ap, sym, subst, ◌∙◌}
use mathlib.Core.Bool.{Bool, true, false, ◌&&◌, cond}
use mathlib.Core.List.{List, ◌++◌}
use Prim.Native.Nat.{ℕ, ◌*◌, ◌≤◌}
use native.Mathlib.Omega.{arith}
use Rattle.std.proofs.Math.Bool.{and-false}
use lib.ListN.{take}
use Rattle.crc.specs.Unit.{right}
use Rattle.flit_read.specs.Fields.{fields_of, replay_kind as replay_run, idle_kind as idle_run}
use Rattle.end_state.specs.State.{is_run}
use Rattle.end_state.specs.declared.End.{End as KeptEnd}
use Rattle.end_state.specs.declared.Mode.{Mode as KeptMode}
use Rattle.receive_test.specs.Arrivals.{holds, closes, checked}
use Rattle.receive_answer.specs.Answers.{replay_answer, run_answer, wait_answer, mode_answer}
use Rattle.receive_answer.specs.declared.Answer.{Answer}
use Rattle.proof_model.proofs.Stream.{Stream, Flit, Item, part, control, idle, replay}
use Rattle.proof_model.proofs.End.{Mode, run, wait, down, End}
use Rattle.proof_model.proofs.Step.{item, Alone}
use Rattle.proof_model.proofs.Chain.{Chain, Rest}
use Rattle.proof_model.proofs.Inv.{Runs, At, Head}
use Rattle.proof_model.proofs.Receive.{Given}
use Rattle.proof_wire.specs.Damage.{reads_replay}
use Rattle.proof_wire.proofs.Pieces.{joined}
use Rattle.proof_wire.proofs.Wrap.{most}
use Rattle.proof_wire.proofs.Stands.{Stands, Formed}
use Rattle.proof_wire.proofs.Says.{Flight, flit, Reads, ReadsControl, mode_of, Kept}
use Rattle.proof_wire.proofs.Looks
use Rattle.proof_wire.proofs.Arrive
use Rattle.proof_wire.proofs.Arrive.{Followed}
use Rattle.proof_wire.proofs.Anew

no_down : run ≡ down → ⊥
no_down h = let z : ◌≡◌ {A = ℕ} 0 1 = cc in omega arith

wait_down : wait ≡ down → ⊥
wait_down h = let z : ◌≡◌ {A = ℕ} 0 1 = cc in omega arith

module _ (f g : Stream) (store : List ℕ) (e : End) (d : Chain) (q : KeptEnd) (hold : List ℕ) (handed : List (List ℕ))
    (fo : Formed f e.s.accepted) (st : Stands f store e.s q) (k : Kept g e.r q hold handed) (small : e.r.owes ≤ 8)
  where
    abbrev Goal : Item → List ℕ → Answer → Type 0
    Goal i x A = Followed f g store hold handed e i q x A

    -- what is checked, by mode, and in mode run
    abbrev looked_in : KeptMode → List ℕ → List ℕ
    looked_in m x = cond (is_run m && closes q) (take (q.gathered.0 * 64) hold ++ x) x

    abbrev looked : List ℕ → List ℕ
    looked x = cond (closes q) (take (q.gathered.0 * 64) hold ++ x) x

    runs : Head g d e → e.r.mode ≡ run → Runs g d e.s.acked e.r
    runs = Arrive.runs f g store e d q hold handed fo st k small

    alone_of : Runs g d e.s.acked e.r → Rest g d → Alone e.r
    alone_of = Arrive.alone_of f g store e d q hold handed fo st k small

    alone_holds : Alone e.r → holds q ≡ false
    alone_holds z =
        Looks.holds_rest q (Arrive.none_gathered f g store e d q hold handed fo st k small z.0) (Arrive.rest_bit f g store e d q hold handed fo st k small z.1)

    alone_closes : Alone e.r → closes q ≡ false
    alone_closes z = Looks.closes_rest q (Arrive.rest_bit f g store e d q hold handed fo st k small z.1)

    alone_looked : (x : List ℕ) → Alone e.r → looked x ≡ x
    alone_looked x z = simp (alone_closes z)

    -- a closing flit
    module _ (b : List ℕ) (n a lo hi : ℕ) (bt ok : Bool) (y : Flight) (w : Given most f g e d (item (control b n a bt) ok lo hi)) (m : e.r.mode ≡ run)
        (h : ReadsControl d.got b n a bt ok y)
      where
        full : q.gathered.0 ≡ q.owed.0
        full = let r = runs w.head m in k.gathered ∙ cc (r.hold, w.fits.fit.full, r.owes) ∙ sym k.owes

        full_looked : looked (flit y) ≡ joined d.got ++ flit y
        full_looked =
            let r = runs w.head m in
            Looks.checked_full q hold (joined e.r.hold) (flit y) (k.stalled ∙ r.bit ∙ w.fits.fit.bit) full
            (ap (λ (t : ℕ). take (t * 64) hold) k.gathered ∙ k.held)
            ∙ ap (λ (l : List (List ℕ)). joined l ++ flit y) r.hold

        closing : right (looked (flit y)) ≡ ok
        closing = ap right full_looked ∙ h.right_is

    -- a right replay flit in mode run
    to_replay : (x : List ℕ) → (fields_of x).run.0 ≡ replay_run → Alone e.r → run_answer q (fields_of x) true ≡ replay_answer q (fields_of x)
    unfolding run_answer
    to_replay x ru z =
        simp (
          alone_holds z,
          Looks.damaged_replay q (fields_of x) ru (alone_closes z),
          Looks.skips_known q (fields_of x) 10 ru refl,
          ru,
        )

    run_follows : (i : Flit) (ok : Bool) (lo hi : ℕ) (y : Flight) → Given most f g e d (item i ok lo hi) → e.r.mode ≡ run → Reads g d.got i ok y
        → Goal (item i ok lo hi) (flit y) (run_answer q (fields_of (flit y)) (right (looked (flit y))))
    run_follows (part v) ok lo hi y w m h = Arrive.on_part f g store e d q hold handed fo st k small v y lo hi ok _ w m h
    run_follows (control b n a bt) true lo hi y w m h =
        rw (closing b n a lo hi bt true y w m h)
        (Arrive.on_control f g store e d q hold handed fo st k small y b n a lo hi bt w m (h.says refl) h.size)
    run_follows (control b n a bt) false lo hi y w m h =
        rw (closing b n a lo hi bt false y w m h)
        (Arrive.on_spoiled f g store e d q hold handed fo st k small (control b n a bt) (flit y) lo hi m (Looks.holds_full q (full b n a lo hi bt false y w m h)))
    run_follows (idle a bt n) true lo hi y w m h =
        let z = alone_of (runs w.head m) w.fits.fit.rest in
        rw (ap right (alone_looked (flit y) z) ∙ h.right_is)
        (Arrive.on_idle f g store e d q hold handed fo st k small y n a lo hi bt w m (h.says refl))
    run_follows (idle a bt n) false lo hi y w m h =
        let z = alone_of (runs w.head m) w.fits.fit.rest in
        rw (ap right (alone_looked (flit y) z) ∙ h.right_is)
        (Arrive.on_spoiled f g store e d q hold handed fo st k small (idle a bt n) (flit y) lo hi m (alone_holds z))
    run_follows (replay na p n bt t) true lo hi y w m h =
        let z = alone_of (runs w.head m) w.fits.fit.rest in
        let s = h.says refl in
        rw (ap right (alone_looked (flit y) z) ∙ h.right_is)
        (rw (to_replay (flit y) s.run z)
        (Anew.on_replay f g store e d q hold handed fo st k small y p n t lo hi na bt w s run (λ v. no_down v) m))
    run_follows (replay na p n bt t) false lo hi y w m h =
        let z = alone_of (runs w.head m) w.fits.fit.rest in
        rw (ap right (alone_looked (flit y) z) ∙ h.right_is)
        (Arrive.on_spoiled f g store e d q hold handed fo st k small (replay na p n bt t) (flit y) lo hi m (alone_holds z))

    -- in mode wait only a right replay flit counts
    plain_skips : (i : Item) (x : List ℕ) → e.r.mode ≡ wait → reads_replay x ≡ false → Goal i x (wait_answer q (fields_of x) (right x))
    unfolding wait_answer reads_replay
    plain_skips i x m h = simp h (Arrive.on_skip f g store e d q hold handed fo st k small i x m)

    not_right : (x : List ℕ) → right x ≡ false → reads_replay x ≡ false
    unfolding reads_replay
    not_right x h = simp h

    not_replay : (x : List ℕ) → (fields_of x).run.0 ≡ idle_run → reads_replay x ≡ false
    unfolding reads_replay
    not_replay x h = simp (h, and-false)

    wait_follows : (i : Flit) (ok : Bool) (lo hi : ℕ) (y : Flight) → Given most f g e d (item i ok lo hi) → e.r.mode ≡ wait → Reads g d.got i ok y
        → Goal (item i ok lo hi) (flit y) (wait_answer q (fields_of (flit y)) (right (flit y)))
    unfolding wait_answer
    wait_follows (part v) ok lo hi y w m h = plain_skips (item (part v) ok lo hi) (flit y) m h.plain
    wait_follows (control b n a bt) ok lo hi y w m h = plain_skips (item (control b n a bt) ok lo hi) (flit y) m h.plain
    wait_follows (idle a bt n) true lo hi y w m h = plain_skips (item (idle a bt n) true lo hi) (flit y) m (not_replay (flit y) (h.says refl).run)
    wait_follows (idle a bt n) false lo hi y w m h = plain_skips (item (idle a bt n) false lo hi) (flit y) m (not_right (flit y) h.right_is)
    wait_follows (replay na p n bt t) true lo hi y w m h =
        let s = h.says refl in
        simp (h.right_is, s.run)
        (Anew.on_replay f g store e d q hold handed fo st k small y p n t lo hi na bt w s wait (λ v. wait_down v) m)
    wait_follows (replay na p n bt t) false lo hi y w m h =
        plain_skips (item (replay na p n bt t) false lo hi) (flit y) m (not_right (flit y) h.right_is)

    pub follows : (i : Item) (y : Flight) → Given most f g e d i → Reads g d.got i.flit i.ok y
        → Followed f g store hold handed e i q (flit y) (mode_answer q.mode q (fields_of (flit y)) (right (checked q hold (flit y))))
    follows i y w h = go e.r.mode refl
      where
        go : (mo : Mode) → e.r.mode ≡ mo
            → Followed f g store hold handed e i q (flit y) (mode_answer q.mode q (fields_of (flit y)) (right (looked_in q.mode (flit y))))
        go run m =
            subst (λ (v : KeptMode). Followed f g store hold handed e i q (flit y) (mode_answer v q (fields_of (flit y)) (right (looked_in v (flit y)))))
            (sym (k.mode ∙ ap mode_of m)) (run_follows i.flit i.ok i.lo i.hi y w m h)
        go wait m =
            subst (λ (v : KeptMode). Followed f g store hold handed e i q (flit y) (mode_answer v q (fields_of (flit y)) (right (looked_in v (flit y)))))
            (sym (k.mode ∙ ap mode_of m)) (wait_follows i.flit i.ok i.lo i.hi y w m h)
        go down m = absurd (subst (At g d e.s.acked e.r) m w.head.at)
