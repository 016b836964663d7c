-- The third test of acceptance, proved: whatever two fresh ends come to over any run meets each clause of the demand, both ways.
use mathlib.Core.Path.{◌≡◌, refl, ap, ap₂, sym, subst, ◌∙◌}
use mathlib.Core.Bool.{Bool, true, false, not, ◌&&◌, true≢false, false≢true}
use mathlib.Core.Logic.{◌≢◌}
use mathlib.Core.List.{List, [], ◌∷◌, ◌++◌, map}
use Prim.Native.Nat.{ℕ, zero, suc, ◌+◌, ◌-◌, ◌*◌, ◌≤◌, ◌<◌}
use native.Mathlib.Omega.{arith}
use lib.Dec.{ltb, eqb}
use lib.ListN.{length, take, drop, get_or, take-append-drop}
use lib.Seq.{take-suc}
use Rattle.std.specs.Prelude.{Result}
use Rattle.std.proofs.lemmas.List.{map-append, append_cancel_right}
use Rattle.flit_number.specs.declared.FlitCount.{FlitCount}
use Rattle.crc.specs.Unit.{right}
use Rattle.flit_read.specs.Fields.{fields_of, acceptable, replay_kind as replay_run}
use Rattle.flit_write.specs.Flits.{bare_control}
use Rattle.flit_read.specs.declared.Fields.{Fields}
use Rattle.end_state.specs.State.{verdict_number}
use Rattle.end_state.specs.Refusals.{is_down, last_run}
use Rattle.end_state.specs.declared.End.{End as KeptEnd}
use Rattle.end_state.specs.declared.Mode.{Mode as KeptMode}
use Rattle.end_state.specs.declared.Mode.TheVariants.{Run, Wait, Down}
use Rattle.end_state.specs.declared.Refusal.{Refusal}
use Rattle.std.proofs.lemmas.Bool.{cond_both}
use Rattle.accept_verdict.specs.Admission as admission
use Rattle.accept.specs.Accept as accept
use Rattle.receive_test.specs.Arrivals.{holds, damaged, skips, checked}
use Rattle.receive_answer.specs.Answers.{replay_answer, plain_answer, run_answer, wait_answer, mode_answer, tells}
use Rattle.receive_answer.specs.declared.Answer.{Answer}
use Rattle.receive_answer.specs.declared.Answer.TheVariants as answer
use Rattle.receive_answer.proofs.Found.{replay_by, plain_by}
use Rattle.receive.specs.Receive as receive
use Rattle.proof_model.proofs.Stream.{Stream, first, Flit, part, control, idle, replay}
use Rattle.proof_model.proofs.Chain.{final, Grows, grows}
use Rattle.proof_model.proofs.Inv.{At}
use Rattle.proof_wire.specs.System.{System, Lent, begin, on_the_way, oldest_flit, turned, Event, Fair}
use Rattle.proof_wire.specs.System
use Rattle.proof_wire.specs.Theorem.{FirstPart, as_handed, arrived_units, Unaltered, Intact, Demand, ThirdTest}
use Rattle.proof_wire.proofs.Wrap.{most}
use Rattle.proof_wire.proofs.Pieces.{joined}
use Rattle.proof_wire.proofs.Says.{Flight, flit, Reads, units, units_append}
use Rattle.proof_wire.proofs.Arrive.{IsControl, Hands}
use Rattle.proof_wire.proofs.Offer.{block_of}
use Rattle.proof_wire.proofs.Makes.{flights}
use Rattle.proof_wire.proofs.Along.{handed_is, handeds, sents, sents_append, units_along, arrived_sents}
use Rattle.proof_wire.proofs.Joint.{Joint, flip, Fine, fine, out_short, out_long, answer_is, next, did}
use Rattle.proof_wire.proofs.Runs.{runs, begin_joint}

-- ---- no refusal

-- 1, 2 and 5 are not among the numbers
record Other (n : ℕ) : Type 0 where
  not_1 : n ≢ 1
  not_2 : n ≢ 2
  not_5 : n ≢ 5

other_0 : Other 0
other_0 = record { not_1 = λ h. omega arith; not_2 = λ h. omega arith; not_5 = λ h. omega arith }

other_3 : Other 3
other_3 = record { not_1 = λ h. omega arith; not_2 = λ h. omega arith; not_5 = λ h. omega arith }

over_5 : (n : ℕ) → 5 < n → Other n
over_5 n h = record { not_1 = λ e. omega arith; not_2 = λ e. omega arith; not_5 = λ e. omega arith }

-- the number of what accept answers
abbrev OtherVerdict : Result (Unit {0}) Refusal → Type 0
OtherVerdict v = Other (verdict_number v)

accept_other : (q : KeptEnd) (store unit : List ℕ) → Fine q store → OtherVerdict (admission.accept_verdict q store unit)
unfolding admission.accept_verdict
accept_other q store unit f =
    simp (f.store_ok, f.state_ok, f.up)
    (cond_both (not (admission.unit_shaped (length unit))) _ _ OtherVerdict (λ h. other_3)
    (λ h. cond_both (not (eqb (admission.flits_of unit - 1) (last_run q store))) _ _ OtherVerdict (λ k. over_5 6 (omega arith))
    (λ k. cond_both (not (acceptable (admission.control_of unit))) _ _ OtherVerdict (λ u. over_5 7 (omega arith))
    (λ u. cond_both (ltb q.capacity.0 (q.held.0 + admission.flits_of unit)) _ _ OtherVerdict (λ v. over_5 8 (omega arith)) (λ v. other_0)))))

-- what is answered in mode run and in mode wait is no refusal
abbrev Taken : Answer → Type 0
Taken a = (tells a).refusal ≡ 0

replay_taken : (q : KeptEnd) (x : Fields) → Taken (replay_answer q x)
replay_taken q x = replay_by Taken q x (λ n. refl) (λ h k. (refl, refl))

plain_taken : (q : KeptEnd) (x : Fields) → Taken (plain_answer q x)
plain_taken q x = plain_by Taken q x (λ n. refl) (λ h k. refl) (λ h k. refl) (λ h k u. refl)

mode_taken : (m : KeptMode) (q : KeptEnd) (x : Fields) (c : Bool) → is_down m ≡ false → Taken (mode_answer m q x c)
unfolding run_answer wait_answer
mode_taken Run q x c h =
    cond_both (holds q) _ _ Taken (λ h. refl)
    (λ h. cond_both (damaged q x c) _ _ Taken (λ h. refl)
    (λ h. cond_both (skips x) _ _ Taken (λ h. refl)
    (λ h. cond_both (eqb x.run.0 replay_run) _ _ Taken (λ h. replay_taken q x) (λ h. plain_taken q x))))
mode_taken Wait q x c h = cond_both (c && eqb x.run.0 replay_run) _ _ Taken (λ h. replay_taken q x) (λ h. refl)
mode_taken Down q x c h = absurd (true≢false h)

-- ---- a unit that is handed on

-- the last flit of a unit that arrived as it was sent; got are its data flits
record Closed (got : List (List ℕ)) (y : Flight) : Type 0 where
  same : y.arrives ≡ y.sent
  last : suc y.part * 64 ≡ length y.arrives
  unit : as_handed y.sent ≡ joined got ++ bare_control (flit y)

closed : (g : Stream) (got : List (List ℕ)) (x : Flit) (ok : Bool) (y : Flight) → Reads g got x ok y → ok ≡ true → IsControl x → Closed got y
closed g got (part v) ok y r o c = absurd c
closed g got (control b n k st) ok y r o c =
    record { same = r.same o; last = r.last; unit = ap as_handed (sym (r.whole ∙ r.same o)) ∙ handed_is (joined got) (flit y) r.size }
closed g got (idle k st n) ok y r o c = absurd c
closed g got (replay na p n st t) ok y r o c = absurd c

-- seen from the end that receives
module _ (x y : Bool) (f g : Stream) (s : System) (j : Joint x y f g s) where
  abbrev q : KeptEnd
  q = s.a.end

  intact : (n : FlitCount) → on_the_way s.ba ≡ true
      → (receive.receive q s.a.store s.a.hold (oldest_flit s.ba)).answer ≡ answer.Delivered n
      → Intact s.ba (take (suc n.0 * 64) (receive.receive_hold q s.a.store s.a.hold (oldest_flit s.ba)))
  unfolding receive.receive receive.receive_hold
  intact n t a =
      let nx = next x y f g s j t in
      let v = oldest_flit s.ba in
      let h =
      subst (λ (w : Answer). Hands w nx.i j.e.r (receive.hold_after w q s.a.hold v) v) a (did x y f g s j nx).hands in
      let c = closed g j.d.got nx.i.flit nx.i.ok nx.next_flight nx.reads h.0 h.1 in
      let r = subst (At g j.d j.e.s.acked j.e.r) h.2 j.inv.from.head.at in
      let p = nx.at in
      let z = nx.is_at in
      let last : suc p.part * 64 ≡ length p.unit.arrives =
      rw z at c.last in
      record {
        before = p.before;
        unit = p.unit;
        after = p.after';
        among = p.among;
        last = omega (arith, p.place);
        same = rw z at c.same;
        as_sent =
            ap (λ (w : Answer). take (suc n.0 * 64) (receive.hold_after w q s.a.hold v)) a
            ∙ h.3
            ∙ ap₂ (λ (l : List (List ℕ)) (w : List ℕ). joined l ++ bare_control w) r.hold (sym nx.same)
            ∙ sym c.unit
            ∙ ap (λ (w : Flight). as_handed w.sent) z;
      }

  received : (flit : List ℕ) → length flit ≡ 64 → (tells (receive.receive q s.a.store s.a.hold flit).answer).refusal ≡ 0
  unfolding receive.receive
  received flit h =
      ap (λ (a : Answer). (tells a).refusal) (answer_is x y f g s j s.a.hold flit j.left.kept.size h)
      ∙ mode_taken q.mode q (fields_of flit) (right (checked q s.a.hold flit)) (fine x y f g s j).up

-- seen from the end that sends
module _ (x y : Bool) (f g : Stream) (s : System) (j : Joint x y f g s) where
  -- the first units of the stream are the first units accepted
  firsts : (n : ℕ) → n ≤ length s.a.accepted → units (first f n) ≡ take n s.a.accepted
  firsts zero l = refl
  firsts (suc n) l =
      units_append (first f n) (f n ∷ [])
      ∙ ap₂ (λ (us : List (List ℕ)) (u : List ℕ). us ++ (u ∷ [])) (firsts n (omega arith)) (j.left.as_bytes n l)
      ∙ sym (take-suc s.a.accepted n [] l)

  handed_on : s.b.handed ≡ units (first f j.p.r.wanted)
  handed_on = j.right_end.kept.out ∙ ap units j.inv.to.head.out

  wanted_le : j.p.r.wanted ≤ length s.a.accepted
  wanted_le =
      let i = j.inv in
      let gr : Grows j.c (final j.c j.l) = grows most f j.c j.l i.to.wire in
      omega (arith, j.left.count, i.to.tail.hi, i.to.head.hi, i.own.given, gr.hi)

  in_order : FirstPart s.b.handed s.a.accepted
  in_order =
      let n = j.p.r.wanted in
      record {
        rest = drop n s.a.accepted;
        whole = ap (λ (us : List (List ℕ)). us ++ drop n s.a.accepted) (handed_on ∙ firsts n wanted_le) ∙ take-append-drop n s.a.accepted;
      }

  all_handed : x ≡ true → s.b.handed ≡ map as_handed (arrived_units s.ab.taken s.ab.passages)
  all_handed t =
      let k = j.clean t in
      let fl = flights s.ab.passages in
      let n = s.ab.taken in
      let far : (final j.c j.l).pos ≡ j.e.s.sent = k.there ∙ k.all in
      let whole : handeds (take n fl) ++ handeds (drop n fl) ≡ units (first f j.c.pos) ++ handeds (drop n fl) =
      sym (map-append as_handed (sents (take n fl)) (sents (drop n fl)))
      ∙ ap (map as_handed) (sym (sents_append (take n fl) (drop n fl)))
      ∙ ap handeds (take-append-drop n fl)
      ∙ j.log t
      ∙ ap (λ (i : ℕ). units (first f i)) (sym far)
      ∙ sym (units_along f j.c j.l (drop n fl) j.inv.to.wire j.there.reads k.straight) in
      handed_on
      ∙ ap (λ (i : ℕ). units (first f i)) (sym k.here)
      ∙ sym (append_cancel_right (handeds (take n fl)) (units (first f j.c.pos)) (handeds (drop n fl)) whole)
      ∙ ap (map as_handed) (sym (arrived_sents n s.ab.passages j.there.sized))

demand : (f g : Stream) (s : System) → Joint false false f g s → (Unaltered s.ab.passages → Joint true false f g s) → Demand s
unfolding accept.accept
demand f g s j k =
    let fi = fine false false f g s j in
    record {
      intact = intact false false g f (turned s) (flip j);
      in_order = in_order false false f g s j;
      up = fi.up;
      accept_1 = λ unit. (accept_other s.a.end s.a.store unit fi).not_1;
      accept_2 = λ unit. (accept_other s.a.end s.a.store unit fi).not_2;
      accept_5 = λ unit. (accept_other s.a.end s.a.store unit fi).not_5;
      send_0 = λ output h. ap verdict_number (out_long false false f g s j 0 0 output [] (omega arith) (omega arith) h);
      send_4 = λ output h. ap verdict_number (out_short false false f g s j 0 0 output [] (omega arith) (omega arith) (omega arith));
      receive_0 = received false false f g s j;
      clean = λ u. all_handed true false f g s (k u) refl;
    }

-- what was accepted, as a stream
abbrev stream : List (List ℕ) → Stream
stream us = λ i. block_of (get_or us i [])

module _ (store hold store' hold' : List ℕ) (h : Lent store hold) (h' : Lent store' hold') (events : List Event)
    (fair : Fair events (begin store hold store' hold'))
  where
    -- what the run comes to
    abbrev reached : System
    reached = System.run events (begin store hold store' hold')

    beside : (x y : Bool) → (x ≡ true → Unaltered reached.ab.passages) → (y ≡ true → Unaltered reached.ba.passages)
        → Joint x y (stream reached.a.accepted) (stream reached.b.accepted) reached
    beside x y u v =
        let f = stream reached.a.accepted in
        let g = stream reached.b.accepted in
        runs x y f g events (begin store hold store' hold') (begin_joint x y f g store hold store' hold' h h') fair
        (record { a = λ i l. refl; b = λ i l. refl; ab = u; ba = v })

    both_ways : Demand (System.run events (begin store hold store' hold')) × Demand (turned (System.run events (begin store hold store' hold')))
    both_ways =
        let f = stream reached.a.accepted in
        let g = stream reached.b.accepted in
        let j : Joint false false f g reached = beside false false (λ z. absurd (false≢true z)) (λ z. absurd (false≢true z)) in (
          demand f g reached j (λ u. beside true false (λ z. u) (λ z. absurd (false≢true z))),
          demand g f (turned reached) (flip j) (λ u. flip (beside false true (λ z. absurd (false≢true z)) (λ z. u))),
        )

-- the theorem
pub third_test : ThirdTest
third_test = both_ways
