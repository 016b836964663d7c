-- The runs of specs/Examples.antt, computed.
use mathlib.Core.Path.{◌≡◌, refl, ap, sym, subst, ◌∙◌}
use mathlib.Core.Bool.{Bool, true, false, ◌&&◌, true≢false}
use mathlib.Core.List.{List, [], ◌∷◌, ◌++◌, append-nil, append_assoc}
use Prim.Native.Nat.{ℕ, zero, suc, ◌*◌, ◌≤◌, ◌<◌}
use native.Mathlib.Omega.{arith}
use borrow.Author.Tests.{ltb-true}
use lib.Dec.{ltb}
use lib.ListN.{length, take, get_or, replicate, drop_of_length-le}
use Rattle.flit_number.specs.Numbers as numbers
use Rattle.crc.specs.Unit as unit
use Rattle.crc.specs.Unit.{AllBytes, changed, weight, odd, right}
use Rattle.crc.specs.Seal as seal
use Rattle.flit_read.specs.Bytes as bytes
use Rattle.flit_read.specs.Fields as fields
use Rattle.flit_write.specs.Flits as flits
use Rattle.end_state.specs.State as state
use Rattle.end_state.specs.Ring as ring
use Rattle.end_state.specs.Ring.{flit_at}
use Rattle.end_state.specs.Refusals as refusals
use Rattle.end_state.proofs.Tests.{and_l, and_r}
use Rattle.accept_verdict.specs.Admission as admission
use Rattle.accept.specs.Accept as accept
use Rattle.send_unit.specs.Units as units
use Rattle.send_state.specs.Moves as moves
use Rattle.send_replay.specs.Replays as replays
use Rattle.send_burst.specs.Burst as burst
use Rattle.send.specs.Send as send
use Rattle.receive_test.specs.Arrivals as arrivals
use Rattle.receive_answer.specs.Answers as answers
use Rattle.receive_answer.specs.declared.Answer.{Answer}
use Rattle.receive_answer.specs.declared.Answer.TheVariants as answer
use Rattle.receive_free.specs.Acknowledge as acknowledge
use Rattle.receive_take.specs.Taken as taken
use Rattle.receive_state.specs.Effects as effects
use Rattle.receive.specs.Receive as receive
use Rattle.proof_wire.specs.Damage as damage
use Rattle.proof_wire.specs.Damage.{window_bits, Damage, unaltered, odd_bits, near_bits, reads_replay, sent_replay, NoReplay, Arrives}
use Rattle.proof_wire.specs.System as system
use Rattle.proof_wire.specs.System.{System, Event, step, run, turned, Lent, Fair, FairBy}
use Rattle.proof_wire.specs.Theorem.{FirstPart, Demand}
use Rattle.proof_runs.specs.Examples.{fresh_pair, blank_output, answer_in, answers_in, outcome, unit_a, unit_b, a_sent, a_hurt, b_sent, asks, starts, full_run, unit_1, unit_2, unit_3, sent_1, sent_2, sent_3, hurt_3, data_run, owes_one, lures, closes_lure, owes_sent, owes_hurt, idle_sent, lure_sent, lured_run, no_unit, stretched, stretched_run, Wider}
use Rattle.proof_wire.proofs.Pieces.{flit_alone}
use Rattle.proof_wire.proofs.Acceptance.{third_test}

-- ---- small tests

-- what a proof unfolds to compute the operations on literals, and to test what arrives
unfoldable operations : Unit {0}
unfolding numbers.acknowledge_for numbers.after numbers.difference numbers.wanted_by unit.bits unit.polynomial unit.right seal.check_of seal.sealed seal.with_check bytes.bytes bytes.number fields.acceptable fields.fields_of flits.bare_control flits.control_told flits.idle_flit flits.replay_flit state.fresh state.start state.store_fits ring.walk_begun ring.flit_at ring.passed ring.ring_place ring.put_at ring.walk_over refusals.counts_sound refusals.numbers_sound refusals.sound refusals.store_is refusals.units_sound accept.accept accept.accept_store admission.unit_shaped admission.accept_verdict accept.flits_stored burst.burst burst.burst_flits moves.moved replays.replay_sent send.send send.send_output units.stored_flits units.unit_sent send.send_verdict arrivals.closes arrivals.damaged arrivals.holds arrivals.run_wrong arrivals.newly_covered arrivals.past_sent answers.plain_answer answers.replay_answer answers.run_answer arrivals.skips arrivals.stall_wrong arrivals.straddles answers.wait_answer acknowledge.acknowledged acknowledge.freed acknowledge.last_border receive.answer_to taken.closed taken.delivered effects.discarded effects.end_after receive.hold_after receive.receive receive.receive_hold taken.replay_taken receive.receive_verdict effects.waiting damage.reads_replay damage.sent_replay damage.units_of system.on_the_way fresh_pair blank_output
operations = tt

unfoldable tests : Unit {0}
unfolding ring.flit_at unit.bits unit.polynomial unit.right fields.fields_of bytes.number reads_replay sent_replay
tests = tt

abbrev all_bytes : List ℕ → Bool
all_bytes [] = true
all_bytes (b ∷ bs) = ltb b 256 && all_bytes bs

bytes_tested : (bs : List ℕ) → all_bytes bs ≡ true → AllBytes bs
bytes_tested [] h i = omega arith
bytes_tested (b ∷ bs) h zero = ltb-true b 256 (and_l (ltb b 256) (all_bytes bs) h)
bytes_tested (b ∷ bs) h (suc i) = bytes_tested bs (and_r (ltb b 256) (all_bytes bs) h) i

-- past the flits there is none
none_past : (v : List ℕ) (i : ℕ) → length v ≤ i * 64 → reads_replay (flit_at v i) ≡ false
unfolding tests
none_past v i h = ap (λ (x : List ℕ). reads_replay (take 64 x)) (drop_of_length-le v {i = i * 64} h)

no_replay : (u v : List ℕ) → length v ≡ 64 → reads_replay v ≡ false → NoReplay u v
no_replay u v h r s zero = ap reads_replay (flit_alone v h) ∙ r
no_replay u v h r s (suc i) = none_past v (suc i) (omega arith)

-- what arrives as it was sent: a flit that is no replay flit, and one that is; and one with an odd number of bits altered
same : (u : List ℕ) → length u ≡ 64 → reads_replay u ≡ false → Arrives u u
same u h r = record { damage = unaltered refl; no_replay = no_replay u u h r }

same_replay : (u : List ℕ) → sent_replay u ≡ true → Arrives u u
same_replay u h = record { damage = unaltered refl; no_replay = λ s. absurd (true≢false (sym h ∙ s)) }

altered : (u v : List ℕ) → length u ≡ 64 → length v ≡ 64 → all_bytes v ≡ true → odd (weight (changed u v)) ≡ true → reads_replay v ≡ false → Arrives u v
altered u v h k b o r = record { damage = odd_bits (k ∙ sym h) (bytes_tested v b) o; no_replay = no_replay u v k r }

a_arrives : Arrives a_sent a_sent
unfolding tests a_sent
a_arrives = same a_sent refl refl

a_altered : Arrives a_sent a_hurt
unfolding tests a_sent a_hurt
a_altered = altered a_sent a_hurt refl refl refl refl refl

b_arrives : Arrives b_sent b_sent
unfolding tests b_sent
b_arrives = same b_sent refl refl

asks_arrives : Arrives asks asks
unfolding tests asks
asks_arrives = same_replay asks refl

starts_arrives : Arrives starts starts
unfolding tests starts
starts_arrives = same_replay starts refl

unit_a_bytes : AllBytes unit_a
unfolding unit_a
unit_a_bytes = bytes_tested unit_a refl

unit_b_bytes : AllBytes unit_b
unfolding unit_b
unit_b_bytes = bytes_tested unit_b refl

-- a run and its answers together, so that both are computed at once
abbrev seen : List Event → System → List Answer → List Answer × System
seen [] s l = (l, s)
seen (e ∷ es) s l = seen es (step e s) (l ++ answer_in e s)

seen_is : (es : List Event) (s : System) (l : List Answer) → seen es s l ≡ (l ++ answers_in es s, run es s)
seen_is [] s l = ap (λ (k : List Answer). (k, s)) (sym (append-nil l))
seen_is (e ∷ es) s l =
    seen_is es (step e s) (l ++ answer_in e s)
    ∙ ap (λ (k : List Answer). (k, run es (step e s))) (append_assoc l (answer_in e s) (answers_in es (step e s)))

abbrev Outcome : Type 0
Outcome = List (List ℕ) × List (List ℕ) × List (List ℕ)

abbrev shown : List Answer × System → List Answer × Outcome
shown t = (t.0, outcome t.1)

-- what was seen of a run, of its answers and of its outcome
answers_seen : (es : List Event) (s : System) (l : List Answer) (o : Outcome) → shown (seen es s []) ≡ (l, o) → answers_in es s ≡ l
answers_seen es s l o h = ap (λ (t : List Answer × System). t.0) (sym (seen_is es s [])) ∙ ap (λ (t : List Answer × Outcome). t.0) h

outcome_seen : (es : List Event) (s : System) (l : List Answer) (o : Outcome) → shown (seen es s []) ≡ (l, o) → outcome (run es s) ≡ o
outcome_seen es s l o h = ap (λ (t : List Answer × System). outcome t.1) (sym (seen_is es s [])) ∙ ap (λ (t : List Answer × Outcome). t.1) h

-- ---- a run with everything in it

pub full_fair : Fair full_run fresh_pair
unfolding operations unit_a unit_b a_sent a_hurt b_sent asks starts full_run
full_fair =
    (unit_a_bytes, ((omega arith, omega arith, (a_altered, tt)), (tt, ((omega arith, omega arith, (asks_arrives, (asks_arrives, tt))), (tt, ((omega arith, omega arith, (starts_arrives, (starts_arrives, tt))), ((omega arith, omega arith, (a_arrives, tt)), (tt, (tt, (tt, (tt, ((omega arith, omega arith, (starts_arrives, (starts_arrives, tt))), ((omega arith, omega arith, (a_arrives, tt)), (tt, (tt, (tt, (unit_b_bytes, ((omega arith, omega arith, (b_arrives, tt)), (tt, tt)))))))))))))))))))

abbrev full_told : List Answer
full_told =
    answer.Damaged ∷ answer.Replayed ∷ answer.Replayed ∷ answer.Replayed ∷ answer.Delivered (record { 0 = 0 }) ∷ answer.Replayed ∷ answer.Replayed ∷ answer.Replayed
    ∷ answer.Duplicate ∷ answer.Delivered (record { 0 = 0 }) ∷ []

full_shown : shown (seen full_run fresh_pair []) ≡ (full_told, (unit_a ∷ [], unit_b ∷ [], unit_a ∷ []))
unfolding operations unit_a unit_b a_sent a_hurt b_sent asks starts full_run
full_shown = refl

-- what it answers: damaged, replayed, delivered, duplicate, and a delivery the other way
pub full_answers : answers_in full_run fresh_pair
    ≡ answer.Damaged ∷ answer.Replayed ∷ answer.Replayed ∷ answer.Replayed ∷ answer.Delivered (record { 0 = 0 }) ∷ answer.Replayed ∷ answer.Replayed ∷ answer.Replayed
    ∷ answer.Duplicate ∷ answer.Delivered (record { 0 = 0 }) ∷ []
full_answers = answers_seen full_run fresh_pair full_told (unit_a ∷ [], unit_b ∷ [], unit_a ∷ []) full_shown

pub full_outcome : outcome (run full_run fresh_pair) ≡ (unit_a ∷ [], unit_b ∷ [], unit_a ∷ [])
full_outcome = outcome_seen full_run fresh_pair full_told (unit_a ∷ [], unit_b ∷ [], unit_a ∷ []) full_shown

lent : Lent (replicate 576 0) (replicate 576 0)
lent = record { capacity = 9; least = omega arith; most = omega arith; size = refl; hold_size = refl }

-- the theorem speaks of it
pub full_demand : Demand (run full_run fresh_pair) × Demand (turned (run full_run fresh_pair))
unfolding fresh_pair
full_demand = third_test (replicate 576 0) (replicate 576 0) (replicate 576 0) (replicate 576 0) lent lent full_run full_fair

-- ---- data, and damage across two flits

no_replay_two : (u v : List ℕ) → length v ≡ 128 → reads_replay (flit_at v 0) ≡ false → reads_replay (flit_at v 1) ≡ false → NoReplay u v
no_replay_two u v h r t s zero = r
no_replay_two u v h r t s (suc zero) = t
no_replay_two u v h r t s (suc (suc i)) = none_past v (suc (suc i)) (omega arith)

data_1 : AllBytes unit_1
unfolding unit_1
data_1 = bytes_tested unit_1 refl

data_2 : AllBytes unit_2
unfolding unit_2
data_2 = bytes_tested unit_2 refl

data_3 : AllBytes unit_3
unfolding unit_3
data_3 = bytes_tested unit_3 refl

arrives_1 : Arrives sent_1 sent_1
unfolding tests sent_1
arrives_1 = same sent_1 refl refl

arrives_idle : Arrives idle_sent idle_sent
unfolding tests idle_sent
arrives_idle = same idle_sent refl refl

arrives_2 : Arrives sent_2 sent_2
unfolding tests sent_2
arrives_2 = record { damage = unaltered refl; no_replay = no_replay_two sent_2 sent_2 refl refl refl }

altered_3 : Arrives sent_3 hurt_3
unfolding tests sent_3 hurt_3
altered_3 =
    record {
      damage =
          near_bits refl (bytes_tested hurt_3 refl)
          (record { before = 511; window = true ∷ true ∷ []; after = 511; narrow = omega arith; only = refl });
      no_replay = no_replay_two sent_3 hurt_3 refl refl refl;
    }

pub data_fair : Fair data_run fresh_pair
unfolding operations unit_1 unit_2 unit_3 idle_sent sent_1 sent_2 sent_3 hurt_3 data_run
data_fair =
    (data_1, (data_2, (data_3, ((omega arith, omega arith, (arrives_1, tt)), ((omega arith, omega arith, (arrives_idle, (arrives_2, tt))), ((omega arith, omega arith, (arrives_idle, (altered_3, tt))), (tt, (tt, (tt, (tt, (tt, (tt, (tt, tt)))))))))))))

abbrev data_told : List Answer
data_told =
    answer.Delivered (record { 0 = 0 }) ∷ answer.Idle ∷ answer.Held ∷ answer.Delivered (record { 0 = 1 }) ∷ answer.Idle ∷ answer.Held ∷ answer.Damaged ∷ []

data_shown : shown (seen data_run fresh_pair []) ≡ (data_told, (unit_1 ∷ unit_2 ∷ [], [], unit_1 ∷ unit_2 ∷ unit_3 ∷ []))
unfolding operations unit_1 unit_2 unit_3 idle_sent sent_1 sent_2 sent_3 hurt_3 data_run
data_shown = refl

pub data_answers : answers_in data_run fresh_pair
    ≡ answer.Delivered (record { 0 = 0 }) ∷ answer.Idle ∷ answer.Held ∷ answer.Delivered (record { 0 = 1 }) ∷ answer.Idle ∷ answer.Held ∷ answer.Damaged ∷ []
data_answers = answers_seen data_run fresh_pair data_told (unit_1 ∷ unit_2 ∷ [], [], unit_1 ∷ unit_2 ∷ unit_3 ∷ []) data_shown

pub data_outcome : outcome (run data_run fresh_pair) ≡ (unit_1 ∷ unit_2 ∷ [], [], unit_1 ∷ unit_2 ∷ unit_3 ∷ [])
data_outcome = outcome_seen data_run fresh_pair data_told (unit_1 ∷ unit_2 ∷ [], [], unit_1 ∷ unit_2 ∷ unit_3 ∷ []) data_shown

-- ---- a wrong unit is no first part

not_first : (us vs : List (List ℕ)) → (get_or (get_or us 0 []) 0 0 ≡ get_or (get_or vs 0 []) 0 0 → ⊥) → 0 < length us → FirstPart us vs → ⊥
not_first [] vs h l p = omega arith
not_first (u ∷ us) vs h l p = h (ap (λ (ws : List (List ℕ)). get_or (get_or ws 0 []) 0 0) p.whole)

-- ---- without the premise on replay flits

owes_altered : Damage window_bits owes_sent owes_hurt
unfolding unit.bits owes_sent owes_hurt
owes_altered = odd_bits refl (bytes_tested owes_hurt refl) refl

owes_bytes : AllBytes owes_one
unfolding owes_one
owes_bytes = bytes_tested owes_one refl

lure_bytes : AllBytes (lures ++ closes_lure)
unfolding lures closes_lure
lure_bytes = bytes_tested (lures ++ closes_lure) refl

pub lured_fair : FairBy (Damage window_bits) lured_run fresh_pair
unfolding operations owes_one lures closes_lure owes_sent owes_hurt idle_sent lure_sent lured_run
lured_fair =
    (owes_bytes, (lure_bytes, ((omega arith, omega arith, (owes_altered, tt)), ((omega arith, omega arith, (unaltered refl, (unaltered refl, tt))), (tt, (tt, (tt, (tt, tt))))))))

pub lured_outcome : outcome (run lured_run fresh_pair) ≡ (closes_lure ∷ [], [], owes_one ∷ (lures ++ closes_lure) ∷ [])
unfolding operations owes_one lures closes_lure owes_sent owes_hurt idle_sent lure_sent lured_run
lured_outcome = refl

pub replay_premise_needed : FirstPart (run lured_run fresh_pair).b.handed (run lured_run fresh_pair).a.accepted → ⊥
unfolding owes_one lures closes_lure
replay_premise_needed p =
    not_first (closes_lure ∷ []) (owes_one ∷ (lures ++ closes_lure) ∷ []) (λ h. omega arith) (omega arith)
    (subst (λ (t : List (List ℕ) × List (List ℕ) × List (List ℕ)). FirstPart t.0 t.2) lured_outcome p)

-- ---- with 37 neighbouring bits

no_unit_bytes : AllBytes no_unit
unfolding no_unit
no_unit_bytes = bytes_tested no_unit refl

wider : Wider no_unit stretched
unfolding tests no_unit stretched
wider = (
  near_bits refl (bytes_tested stretched refl) (record { before = 0; window = unit.polynomial; after = 475; narrow = omega arith; only = refl }),
  no_replay no_unit stretched refl refl,
)

pub stretched_fair : FairBy Wider stretched_run fresh_pair
unfolding operations no_unit stretched stretched_run
stretched_fair = (no_unit_bytes, ((omega arith, omega arith, (wider, tt)), (tt, tt)))

pub stretched_outcome : outcome (run stretched_run fresh_pair) ≡ (stretched ∷ [], [], no_unit ∷ [])
unfolding operations no_unit stretched stretched_run
stretched_outcome = refl

pub window_sharp : FirstPart (run stretched_run fresh_pair).b.handed (run stretched_run fresh_pair).a.accepted → ⊥
unfolding no_unit stretched
window_sharp p =
    not_first (stretched ∷ []) (no_unit ∷ []) (λ h. omega arith) (omega arith)
    (subst (λ (t : List (List ℕ) × List (List ℕ) × List (List ℕ)). FirstPart t.0 t.2) stretched_outcome p)
