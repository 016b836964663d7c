-- Two fresh ends, each with one store and one hold buffer that nobody else writes, and the two wires between them (00, condition B 3).
-- A run is any list of accepts, sends and receives of the two, each call given the state, the store and the hold as the last one left
-- them. The calls are those of crates accept, send and receive.
use Rattle.std.specs.Prelude.{◌≡◌, Bool, cond, List, [], ◌∷◌, ◌++◌, ℕ, suc, ◌*◌, ◌^◌, ◌≤◌, ◌<◌, ltb, eqb, length, take, Result, Ok, Err}
use Rattle.flit_number.specs.declared.FlitCount.{FlitCount}
use Rattle.crc.specs.Unit.{AllBytes}
use Rattle.end_state.specs.State.{start}
use Rattle.end_state.specs.Ring.{flit_at}
use Rattle.end_state.specs.declared.End.{End}
use Rattle.end_state.specs.declared.Refusal.{Refusal}
use Rattle.accept.specs.Accept.{accept, accept_store}
use Rattle.send.specs.Send.{send, send_output, flits_written}
use Rattle.receive_answer.specs.Answers.{tells}
use Rattle.receive_answer.specs.declared.Answer.{Answer}
use Rattle.receive_answer.specs.declared.Answer.TheVariants as answer
use Rattle.receive.specs.Receive.{receive, receive_hold}
use Rattle.proof_wire.specs.Damage.{Arrives, units_of}

-- ---- what there is

-- an end between two calls, with the units that it has accepted and those that it has handed on so far, as bytes
pub record WireSide : Type 0 where
  pub end : End
  pub store : List ℕ
  pub hold : List ℕ
  pub accepted : List (List ℕ)
  pub handed : List (List ℕ)

-- a unit on its way: the bytes that were sent, and the bytes that arrive for them
pub record Passage : Type 0 where
  pub sent : List ℕ
  pub arrives : List ℕ

-- a wire: all units ever sent on it, oldest first, and how many flits of what arrives have arrived. Flits arrive in that order, none is
-- lost and none is added.
pub record Wire : Type 0 where
  pub passages : List Passage
  pub taken : ℕ

pub record System : Type 0 where
  pub a : WireSide
  pub b : WireSide
  pub ab : Wire
  pub ba : Wire

-- ---- the beginning

-- a store of 64 C bytes, C in 9..1024, and a hold buffer, whatever they hold
pub record Lent (store hold : List ℕ) : Type 0 where
  pub capacity : ℕ
  pub least : 9 ≤ capacity
  pub most : capacity ≤ 1024
  pub size : length store ≡ capacity * 64
  pub hold_size : length hold ≡ 576

abbrev pub fresh_side : List ℕ → List ℕ → WireSide
fresh_side store hold = record { end = (start (length store)).end; store = store; hold = hold; accepted = []; handed = [] }

abbrev pub begin : List ℕ → List ℕ → List ℕ → List ℕ → System
begin store hold store' hold' =
    record {
      a = fresh_side store hold;
      b = fresh_side store' hold';
      ab = record { passages = []; taken = 0 };
      ba = record { passages = []; taken = 0 };
    }

-- ---- the calls of an end

-- accept is offered any unit
abbrev pub with_accepted : Result (Unit {0}) Refusal → List (List ℕ) → List ℕ → List (List ℕ)
with_accepted (Err r) units unit = units
with_accepted (Ok u) units unit = units ++ (unit ∷ [])

abbrev pub accepting : List ℕ → WireSide → WireSide
accepting unit x =
    record {
      end = (accept x.end x.store unit).end;
      store = accept_store x.end x.store unit;
      hold = x.hold;
      accepted = with_accepted (accept x.end x.store unit).answer x.accepted unit;
      handed = x.handed;
    }

-- send is given any link fields and any output; what it wrote goes on the wire unit by unit, and nothing where it refused
abbrev pub wire_bytes : Result FlitCount Refusal → List ℕ → List ℕ
wire_bytes a output = take (flits_written a * 64) output

abbrev pub flits_sent : ℕ → ℕ → List ℕ → WireSide → List ℕ
flits_sent errors information output x =
    wire_bytes (send x.end x.store (length output)).answer (send_output x.end x.store output errors information)

abbrev pub sending : List ℕ → WireSide → WireSide
sending output x =
    record {
      end = (send x.end x.store (length output)).end;
      store = x.store;
      hold = x.hold;
      accepted = x.accepted;
      handed = x.handed;
    }

abbrev pub passing : List (List ℕ) → List (List ℕ) → List Passage
passing [] vs = []
passing (u ∷ us) [] = []
passing (u ∷ us) (v ∷ vs) = record { sent = u; arrives = v } ∷ passing us vs

abbrev pub put : List Passage → Wire → Wire
put ps w = record { passages = w.passages ++ ps; taken = w.taken }

-- receive is given the oldest flit on the wire, if there is one
abbrev pub arriving : List Passage → List ℕ
arriving [] = []
arriving (p ∷ ps) = p.arrives ++ arriving ps

unfoldable pub on_the_way : Wire → Bool
on_the_way w = ltb (w.taken * 64) (length (arriving w.passages))

abbrev pub oldest_flit : Wire → List ℕ
oldest_flit w = flit_at (arriving w.passages) w.taken

-- a flit whose receive is refused has not arrived
abbrev pub arrived_by : Answer → ℕ → ℕ
arrived_by a n = cond (eqb (tells a).refusal 0) (suc n) n

-- a unit is handed on in the first part of hold: its data flits, then its control flit
abbrev pub handed_by : Answer → List ℕ → List (List ℕ)
handed_by (answer.Delivered k) hold = take (suc k.0 * 64) hold ∷ []
handed_by _ hold = []

abbrev pub receiving : List ℕ → WireSide → WireSide
receiving flit x =
    record {
      end = (receive x.end x.store x.hold flit).end;
      store = x.store;
      hold = receive_hold x.end x.store x.hold flit;
      accepted = x.accepted;
      handed = x.handed ++ handed_by (receive x.end x.store x.hold flit).answer (receive_hold x.end x.store x.hold flit);
    }

abbrev pub take_one : List ℕ → WireSide → Wire → Wire
take_one flit x w =
    record { passages = w.passages; taken = arrived_by (receive x.end x.store x.hold flit).answer w.taken }

-- ---- a run

pub data Call : Type 0 where
  accepts : (unit : List ℕ) → Call
  sends : (errors information : ℕ) (output : List ℕ) (arrivals : List (List ℕ)) → Call
  receives : Call

-- a call of end a
abbrev pub calls : Call → System → System
calls (accepts unit) s = record { a = accepting unit s.a; b = s.b; ab = s.ab; ba = s.ba }
calls (sends errors information output arrivals) s =
    record {
      a = sending output s.a;
      b = s.b;
      ab = put (passing (units_of (flits_sent errors information output s.a)) arrivals) s.ab;
      ba = s.ba;
    }
calls receives s =
    cond (on_the_way s.ba)
    (record {
      a = receiving (oldest_flit s.ba) s.a;
      b = s.b;
      ab = s.ab;
      ba = take_one (oldest_flit s.ba) s.a s.ba;
    })
    s

-- the same two ends, the other one first
abbrev pub turned : System → System
turned s = record { a = s.b; b = s.a; ab = s.ba; ba = s.ab }

pub data Event : Type 0 where
  of_a : Call → Event
  of_b : Call → Event

abbrev pub step : Event → System → System
step (of_a c) s = calls c s
step (of_b c) s = turned (calls c (turned s))

abbrev pub run : List Event → System → System
run [] s = s
run (e ∷ es) s = run es (step e s)

-- ---- what is asked of it: what is given are bytes, link fields are of their width, and each unit sent and what arrives for it are in the
-- relation R

abbrev pub ArriveAll : (List ℕ → List ℕ → Type 0) → List (List ℕ) → List (List ℕ) → Type 0
ArriveAll R [] [] = Unit {0}
ArriveAll R [] (v ∷ vs) = ⊥
ArriveAll R (u ∷ us) [] = ⊥
ArriveAll R (u ∷ us) (v ∷ vs) = R u v × ArriveAll R us vs

abbrev pub Given : (List ℕ → List ℕ → Type 0) → Call → System → Type 0
Given R (accepts unit) s = AllBytes unit
Given R (sends errors information output arrivals) s =
    (errors < 256) × (information < 2 ^ 64) × ArriveAll R (units_of (flits_sent errors information output s.a)) arrivals
Given R receives s = Unit {0}

abbrev pub Takes : (List ℕ → List ℕ → Type 0) → Event → System → Type 0
Takes R (of_a c) s = Given R c s
Takes R (of_b c) s = Given R c (turned s)

abbrev pub FairBy : (List ℕ → List ℕ → Type 0) → List Event → System → Type 0
FairBy R [] s = Unit {0}
FairBy R (e ∷ es) s = Takes R e s × FairBy R es (step e s)

-- the run is as the buyer says
abbrev pub Fair : List Event → System → Type 0
Fair es s = FairBy Arrives es s
