-- What may become of a unit on its way (00, condition B 3): "each unit arrives unaltered, or altered in an odd number of bits, or
-- altered only within 36 neighbouring bits; and no flit not sent as a replay flit arrives reading as a right one". All of it is said
-- of bytes alone. The kinds of damage stand here and nowhere else.
use Rattle.std.specs.Prelude.{◌≡◌, Bool, true, false, ◌&&◌, cond, List, [], ◌∷◌, ◌++◌, ℕ, ltb, eqb, length, take, drop}
use Rattle.crc.specs.Unit.{right, AllBytes, changed, weight, odd, Within}
use Rattle.flit_read.specs.Fields.{fields_of, replay_kind}
use Rattle.end_state.specs.Ring.{flit_at}

-- the neighbouring bits within which a unit may be altered in any way
abbrev pub window_bits : ℕ
window_bits = 36

-- a unit of 1 to 9 flits was sent as the first list of bytes and arrives as the second; `window` is the number of neighbouring bits
pub data Damage (window : ℕ) (sent arrives : List ℕ) : Type 0 where
  unaltered : arrives ≡ sent → Damage window sent arrives
  odd_bits : length arrives ≡ length sent → AllBytes arrives → odd (weight (changed sent arrives)) ≡ true → Damage window sent arrives
  near_bits : length arrives ≡ length sent → AllBytes arrives → Within window sent arrives → Damage window sent arrives

-- a flit reads as a right replay flit; a unit was sent as a replay flit
unfoldable pub reads_replay : List ℕ → Bool
reads_replay flit = right flit && eqb (fields_of flit).run.0 replay_kind

unfoldable pub sent_replay : List ℕ → Bool
sent_replay unit = eqb (length unit) 64 && eqb (fields_of unit).run.0 replay_kind

abbrev pub NoReplay : List ℕ → List ℕ → Type 0
NoReplay sent arrives = sent_replay sent ≡ false → (i : ℕ) → reads_replay (flit_at arrives i) ≡ false

-- what the buyer says of each unit sent
pub record Arrives (sent arrives : List ℕ) : Type 0 where
  pub damage : Damage window_bits sent arrives
  pub no_replay : NoReplay sent arrives

-- the flits of one send, by units: an idle or replay flit (run length over 8) is one, and so are data flits with their control flit
abbrev pub one : List ℕ → List (List ℕ)
one [] = []
one (b ∷ bs) = (b ∷ bs) ∷ []

unfoldable pub units_of : List ℕ → List (List ℕ)
units_of flits = cond (ltb 8 (fields_of (take 64 flits)).run.0) (one (take 64 flits) ++ one (drop 64 flits)) (one flits)
