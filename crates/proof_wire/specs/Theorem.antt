-- The third test of acceptance (00, condition B 3), clause by clause, as it is said of any system that two fresh ends come to. Seen from
-- a: what a has sent, and what b has handed on; the other direction is the same of the turned system.
use Rattle.std.specs.Prelude.{◌≡◌, Bool, true, false, not, ◌&&◌, cond, ◌≢◌, List, [], ◌∷◌, ◌++◌, map, ℕ, suc, ◌+◌, ◌-◌, ◌*◌, ◌/◌, ◌≤◌, ltb, leb, eqb, length, take}
use Rattle.flit_read.specs.Fields.{fields_of}
use Rattle.flit_write.specs.Flits.{bare_control}
use Rattle.end_state.specs.State.{verdict_number}
use Rattle.end_state.specs.Refusals.{is_down}
use Rattle.accept_verdict.specs.Admission.{control_of}
use Rattle.accept.specs.Accept.{accept}
use Rattle.send.specs.Send.{send_verdict}
use Rattle.receive_answer.specs.declared.Answer.TheVariants as answer
use Rattle.receive_answer.specs.Answers.{tells}
use Rattle.receive.specs.Receive.{receive, receive_hold}
use Rattle.flit_number.specs.declared.FlitCount.{FlitCount}
use Rattle.proof_wire.specs.System.{Passage, Wire, System, Lent, begin, arriving, on_the_way, oldest_flit, turned, Event, run, Fair}

-- the first list is a first part of the second
pub record FirstPart (xs ys : List (List ℕ)) : Type 0 where
  pub rest : List (List ℕ)
  pub whole : xs ++ rest ≡ ys

-- a unit as it is handed on: its control flit, the last, with bits 63:18 zero
unfoldable pub as_handed : List ℕ → List ℕ
as_handed unit = take (length unit - 64) unit ++ bare_control (control_of unit)

-- a unit of the transaction layer, which has data or a control flit's run length
unfoldable pub is_unit : List ℕ → Bool
is_unit unit = not (eqb (length unit) 64 && ltb 8 (fields_of unit).run.0)

-- of what was sent on a wire, the units whose last flit has arrived
unfoldable pub arrived_units : ℕ → List Passage → List (List ℕ)
arrived_units flits [] = []
arrived_units flits (p ∷ ps) =
    cond (leb (length p.arrives / 64) flits)
    (cond (is_unit p.sent) (p.sent ∷ arrived_units (flits - length p.arrives / 64) ps) (arrived_units (flits - length p.arrives / 64) ps))
    []

-- nothing sent was altered
abbrev pub Unaltered : List Passage → Type 0
Unaltered [] = Unit {0}
Unaltered (p ∷ ps) = (p.arrives ≡ p.sent) × Unaltered ps

-- the oldest flit on a wire is the last one of a unit that arrived as it was sent, and u is this unit as it is handed on
pub record Intact (w : Wire) (u : List ℕ) : Type 0 where
  pub before : List Passage
  pub unit : Passage
  pub after : List Passage
  pub among : w.passages ≡ before ++ (unit ∷ after)
  pub last : suc w.taken * 64 ≡ length (arriving before) + length unit.arrives
  pub same : unit.arrives ≡ unit.sent
  pub as_sent : u ≡ as_handed unit.sent

pub record Demand (s : System) : Type 0 where
  -- no altered unit is handed on
  pub intact : (n : FlitCount) → on_the_way s.ab ≡ true
      → (receive s.b.end s.b.store s.b.hold (oldest_flit s.ab)).answer ≡ answer.Delivered n
      → Intact s.ab (take (suc n.0 * 64) (receive_hold s.b.end s.b.store s.b.hold (oldest_flit s.ab)))
  -- what each end has handed on is at all times a first part of what the other accepted
  pub in_order : FirstPart s.b.handed s.a.accepted
  -- neither end goes down
  pub up : is_down s.a.end.mode ≡ false
  -- no accept is refused with 1, 2 or 5
  pub accept_1 : (unit : List ℕ) → verdict_number (accept s.a.end s.a.store unit).answer ≢ 1
  pub accept_2 : (unit : List ℕ) → verdict_number (accept s.a.end s.a.store unit).answer ≢ 2
  pub accept_5 : (unit : List ℕ) → verdict_number (accept s.a.end s.a.store unit).answer ≢ 5
  -- no send is refused but for an output under 640 bytes
  pub send_0 : (output : List ℕ) → 640 ≤ length output → verdict_number (send_verdict s.a.end s.a.store (length output)) ≡ 0
  pub send_4 : (output : List ℕ) → length output ≤ 639 → verdict_number (send_verdict s.a.end s.a.store (length output)) ≡ 4
  -- no flit's receive is refused
  pub receive_0 : (flit : List ℕ) → length flit ≡ 64
      → (tells (receive s.a.end s.a.store s.a.hold flit).answer).refusal ≡ 0
  -- if nothing sent one way was altered, every unit sent that way is handed on by the time its last flit has arrived
  pub clean : Unaltered s.ab.passages → s.b.handed ≡ map as_handed (arrived_units s.ab.taken s.ab.passages)

-- the third test: two fresh ends of any capacities, any run that is as the buyer says, both ways
abbrev pub ThirdTest : Type 0
ThirdTest =
    (store hold store' hold' : List ℕ) → Lent store hold → Lent store' hold' → (events : List Event)
    → Fair events (begin store hold store' hold')
    → Demand (run events (begin store hold store' hold')) × Demand (turned (run events (begin store hold store' hold')))
