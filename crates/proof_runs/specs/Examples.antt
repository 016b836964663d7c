-- Four runs. The first has damage, replay, a duplicate and deliveries both ways, the second data and damage across two flits, and both are
-- as the buyer says: so the third test of acceptance speaks of something. The other two show that its premises on what arrives are needed:
-- without the one on replay flits, and with 37 neighbouring bits in place of 36, a wrong unit is handed on.
use Rattle.std.specs.Prelude.{cond, List, [], ◌∷◌, ◌++◌, ℕ, suc, replicate}
use Rattle.receive.specs.Receive.{receive}
use Rattle.receive_answer.specs.declared.Answer.{Answer}
use Rattle.proof_wire.specs.Damage.{window_bits, Damage, NoReplay}
use Rattle.proof_wire.specs.System.{System, Event, of_a, of_b, accepts, sends, receives, begin, on_the_way, oldest_flit, step, turned}

-- two fresh ends of nine places each, with zero stores, and an output
unfoldable pub fresh_pair : System
fresh_pair = begin (replicate 576 0) (replicate 576 0) (replicate 576 0) (replicate 576 0)

unfoldable pub blank_output : List ℕ
blank_output = replicate 640 0

-- the answers to the receives of a run
abbrev pub answer_of_a : System → List Answer
answer_of_a s = cond (on_the_way s.ba) ((receive s.a.end s.a.store s.a.hold (oldest_flit s.ba)).answer ∷ []) []

abbrev pub answer_in : Event → System → List Answer
answer_in (of_a receives) s = answer_of_a s
answer_in (of_b receives) s = answer_of_a (turned s)
answer_in _ s = []

abbrev pub answers_in : List Event → System → List Answer
answers_in [] s = []
answers_in (e ∷ es) s = answer_in e s ++ answers_in es (step e s)

-- what b has handed on, what a has handed on, and what a has accepted
abbrev pub outcome : System → List (List ℕ) × List (List ℕ) × List (List ℕ)
outcome s = (s.b.handed, s.a.handed, s.a.accepted)

-- ---- a run with everything in it

-- a unit that a accepts, and one that b accepts: a control flit each
unfoldable pub unit_a : List ℕ
unit_a = (1 ∷ []) ++ (replicate 63 0)

unfoldable pub unit_b : List ℕ
unit_b = (9 ∷ []) ++ (replicate 63 0)

-- the unit of a as it is sent, and with one bit altered; the unit of b as it is sent, which acknowledges one flit
unfoldable pub a_sent : List ℕ
a_sent = (1 ∷ []) ++ (replicate 58 0 ++ (64 ∷ 210 ∷ 52 ∷ 236 ∷ 68 ∷ []))

unfoldable pub a_hurt : List ℕ
a_hurt = (1 ∷ []) ++ (replicate 4 0 ++ (16 ∷ []) ++ (replicate 53 0 ++ (64 ∷ 210 ∷ 52 ∷ 236 ∷ 68 ∷ [])))

unfoldable pub b_sent : List ℕ
b_sent = (9 ∷ []) ++ (replicate 57 0 ++ (128 ∷ 96 ∷ 148 ∷ 170 ∷ 255 ∷ 232 ∷ []))

-- the replay flits: b waits and asks, a starts anew
unfoldable pub asks : List ℕ
asks = replicate 44 0 ++ (5 ∷ []) ++ (replicate 7 0 ++ (255 ∷ 255 ∷ 0 ∷ 0 ∷ 10 ∷ 7 ∷ 16 ∷ 0 ∷ 111 ∷ 18 ∷ 224 ∷ 115 ∷ []))

unfoldable pub starts : List ℕ
starts = replicate 44 0 ++ (5 ∷ []) ++ (replicate 7 0 ++ (255 ∷ 255 ∷ 0 ∷ 0 ∷ 10 ∷ 7 ∷ 0 ∷ 16 ∷ 60 ∷ 237 ∷ 139 ∷ 80 ∷ []))

-- the unit is altered; b waits and asks for it; a starts anew and it is delivered; the second of the two flits that ask arrives, a starts anew
-- once more, and it is a duplicate; then b sends a unit of its own
unfoldable pub full_run : List Event
full_run =
    of_a (accepts unit_a)
    ∷ of_a (sends 7 5 blank_output (a_hurt ∷ []))
    ∷ of_b receives
    ∷ of_b (sends 7 5 blank_output (asks ∷ asks ∷ []))
    ∷ of_a receives
    ∷ of_a (sends 7 5 blank_output (starts ∷ starts ∷ []))
    ∷ of_a (sends 7 5 blank_output (a_sent ∷ []))
    ∷ of_b receives
    ∷ of_b receives
    ∷ of_b receives
    ∷ of_a receives
    ∷ of_a (sends 7 5 blank_output (starts ∷ starts ∷ []))
    ∷ of_a (sends 7 5 blank_output (a_sent ∷ []))
    ∷ of_b receives
    ∷ of_b receives
    ∷ of_b receives
    ∷ of_b (accepts unit_b)
    ∷ of_b (sends 7 5 blank_output (b_sent ∷ []))
    ∷ of_a receives ∷ []

-- ---- data, and damage across two flits

-- the idle flit before a unit with one data flit
unfoldable pub idle_sent : List ℕ
idle_sent = replicate 56 0 ++ (31 ∷ 0 ∷ 0 ∷ 64 ∷ 66 ∷ 243 ∷ 71 ∷ 232 ∷ [])

-- three units: the first two owe a data flit each
unfoldable pub unit_1 : List ℕ
unit_1 = (4 ∷ []) ++ (replicate 55 0 ++ (1 ∷ []) ++ (replicate 7 0))

unfoldable pub unit_2 : List ℕ
unit_2 = ((5 ∷ []) ++ (replicate 63 0)) ++ ((6 ∷ []) ++ (replicate 55 0 ++ (1 ∷ []) ++ (replicate 7 0)))

unfoldable pub unit_3 : List ℕ
unit_3 = ((7 ∷ []) ++ (replicate 63 0)) ++ ((8 ∷ []) ++ (replicate 63 0))

-- as they are sent
unfoldable pub sent_1 : List ℕ
sent_1 = (4 ∷ []) ++ (replicate 55 0 ++ (1 ∷ 0 ∷ 8 ∷ 16 ∷ 113 ∷ 39 ∷ 121 ∷ 74 ∷ []))

unfoldable pub sent_2 : List ℕ
sent_2 = ((5 ∷ []) ++ (replicate 63 0)) ++ ((6 ∷ []) ++ (replicate 55 0 ++ (1 ∷ 0 ∷ 8 ∷ 144 ∷ 209 ∷ 206 ∷ 232 ∷ 171 ∷ [])))

unfoldable pub sent_3 : List ℕ
sent_3 = ((7 ∷ []) ++ (replicate 63 0)) ++ ((8 ∷ []) ++ (replicate 58 0 ++ (192 ∷ 182 ∷ 15 ∷ 155 ∷ 149 ∷ [])))

-- the third with the last bit of its data flit and the first bit of its control flit altered
unfoldable pub hurt_3 : List ℕ
hurt_3 = ((7 ∷ []) ++ (replicate 62 0 ++ (128 ∷ []))) ++ ((9 ∷ []) ++ (replicate 58 0 ++ (192 ∷ 182 ∷ 15 ∷ 155 ∷ 149 ∷ [])))

-- the first two are delivered, the third is damaged
unfoldable pub data_run : List Event
data_run =
    of_a (accepts unit_1)
    ∷ of_a (accepts unit_2)
    ∷ of_a (accepts unit_3)
    ∷ of_a (sends 0 0 blank_output (sent_1 ∷ []))
    ∷ of_a (sends 0 0 blank_output (idle_sent ∷ sent_2 ∷ []))
    ∷ of_a (sends 0 0 blank_output (idle_sent ∷ hurt_3 ∷ []))
    ∷ of_b receives
    ∷ of_b receives
    ∷ of_b receives
    ∷ of_b receives
    ∷ of_b receives
    ∷ of_b receives
    ∷ of_b receives ∷ []

-- ---- the premise on replay flits

-- a unit that owes one data flit, and a unit whose data flit reads as a right replay flit of start 0
unfoldable pub owes_one : List ℕ
owes_one = replicate 56 0 ++ (1 ∷ []) ++ (replicate 7 0)

unfoldable pub lures : List ℕ
lures = replicate 52 0 ++ (255 ∷ 255 ∷ 0 ∷ 0 ∷ 10 ∷ 0 ∷ 0 ∷ 144 ∷ 253 ∷ 238 ∷ 43 ∷ 167 ∷ [])

unfoldable pub closes_lure : List ℕ
closes_lure = (2 ∷ []) ++ (replicate 63 0)

-- the first one as it is sent, and with one bit altered; and the second one as it is sent
unfoldable pub owes_sent : List ℕ
owes_sent = replicate 56 0 ++ (1 ∷ 0 ∷ 8 ∷ 64 ∷ 30 ∷ 21 ∷ 223 ∷ 145 ∷ [])

unfoldable pub owes_hurt : List ℕ
owes_hurt = (1 ∷ []) ++ (replicate 55 0 ++ (1 ∷ 0 ∷ 8 ∷ 64 ∷ 30 ∷ 21 ∷ 223 ∷ 145 ∷ []))

unfoldable pub lure_sent : List ℕ
lure_sent = (replicate 52 0 ++ (255 ∷ 255 ∷ 0 ∷ 0 ∷ 10 ∷ 0 ∷ 0 ∷ 144 ∷ 253 ∷ 238 ∷ 43 ∷ 167 ∷ [])) ++ ((2 ∷ []) ++ (replicate 58 0 ++ (128 ∷ 164 ∷ 105 ∷ 216 ∷ 137 ∷ [])))

-- the first unit is altered and b waits; then the data flit of the second one is taken for a replay flit, and its control flit for a unit
unfoldable pub lured_run : List Event
lured_run =
    of_a (accepts owes_one)
    ∷ of_a (accepts (lures ++ closes_lure))
    ∷ of_a (sends 0 0 blank_output (owes_hurt ∷ []))
    ∷ of_a (sends 0 0 blank_output (idle_sent ∷ lure_sent ∷ []))
    ∷ of_b receives
    ∷ of_b receives
    ∷ of_b receives
    ∷ of_b receives ∷ []

-- ---- 36 neighbouring bits, and not 37

-- a zero control flit, and the same with its first 37 bits those of the polynomial
unfoldable pub no_unit : List ℕ
no_unit = replicate 64 0

unfoldable pub stretched : List ℕ
stretched = (101 ∷ 18 ∷ 110 ∷ 129 ∷ 28 ∷ []) ++ (replicate 59 0)

unfoldable pub stretched_run : List Event
stretched_run = of_a (accepts no_unit) ∷ of_a (sends 0 0 blank_output (stretched ∷ [])) ∷ of_b receives ∷ []

-- what becomes of a unit, with one neighbouring bit more
abbrev pub Wider : List ℕ → List ℕ → Type 0
Wider sent arrives = Damage (suc window_bits) sent arrives × NoReplay sent arrives
