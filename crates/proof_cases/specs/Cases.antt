-- The bench cases (01, "Bench cases"): one table. Each case is said with the definitions that the contracts of the check, start, accept,
-- send and receive cite: what the operation gives on a fresh end, or on one that is fresh but for the fields named.
use Rattle.std.specs.Prelude.{◌≡◌, true, false, List, [], ◌∷◌, ◌++◌, ℕ, ◌*◌, take, drop, replicate, Result, Ok, Err}
use Rattle.crc.specs.Unit.{right}
use Rattle.crc.specs.Seal.{sealed}
use Rattle.flit_read.specs.Bytes.{write}
use Rattle.flit_read.specs.Fields.{fields_of, run_length, replay_kind, idle_kind}
use Rattle.flit_write.specs.Flits.{with_content, control_told}
use Rattle.flit_read.specs.declared.Fields.{Fields}
use Rattle.end_state.specs.State.{fresh, start}
use Rattle.end_state.specs.Update.{with_untold, with_discards, with_cursor, with_wanted, with_position, with_pending, with_mode}
use Rattle.end_state.specs.declared.Answered.{Answered}
use Rattle.end_state.specs.declared.End.{End}
use Rattle.end_state.specs.declared.Mode.TheVariants.{Run, Wait}
use Rattle.end_state.specs.declared.Refusal.{Refusal}
use Rattle.end_state.specs.declared.Refusal.TheVariants as refusal
use Rattle.accept.specs.Accept.{accept}
use Rattle.send_replay.specs.Replays.{replay_sent}
use Rattle.send.specs.Send.{send, send_output}
use Rattle.receive_test.specs.Arrivals.{behind}
use Rattle.receive_answer.specs.declared.Answer.{Answer}
use Rattle.receive_answer.specs.declared.Answer.TheVariants as answer
use Rattle.receive.specs.Receive.{receive}

-- ---- the flits of the cases

abbrev pub zero_flit : List ℕ
zero_flit = replicate 64 0

-- zero but for the run length, as accept takes it
abbrev pub control_flit : ℕ → List ℕ
control_flit run = with_content zero_flit (write run_length run)

-- the zero control flit as it is sent with an ACK count
abbrev pub acks_sent : ℕ → List ℕ
acks_sent acks = sealed (control_told zero_flit acks false)

-- a replay flit with a starting number, as an end sends it that is fresh but for its cursor: it acknowledges nothing new
abbrev pub replay_from : ℕ → List ℕ
replay_from number = replay_sent (with_cursor number (fresh 9)) 0 0 0

-- zero but for its last bit, which is one of the check
abbrev pub wrong_flit : List ℕ
wrong_flit = replicate 63 0 ++ (0x80 ∷ [])

-- ---- the ends of the cases, fresh but for what is named

abbrev pub wanting : ℕ → End
wanting n = with_wanted n (fresh 9)

abbrev pub untold : ℕ → End
untold n = with_untold n (fresh 9)

abbrev pub discarding : ℕ → End
discarding n = with_mode Wait (with_discards n (fresh 9))

-- ---- the operations, on a zero store of capacity 9 and zero buffers

abbrev pub store : List ℕ
store = replicate (64 * 9) 0

abbrev pub start_answers : ℕ → Result (Unit {0}) Refusal
start_answers capacity = (start (64 * capacity)).answer

abbrev pub accept_answers : List ℕ → Result (Unit {0}) Refusal
accept_answers unit = (accept (fresh 9) store unit).answer

-- what is read of the first flit that an end sends, and the end then
abbrev pub first_sent : End → Fields
first_sent e = fields_of (take 64 (send_output e store (replicate 640 0) 0 0))

abbrev pub end_sent : End → End
end_sent e = (send e store 640).end

abbrev pub receive_answers : End → List ℕ → Answered Answer
receive_answers e flit = receive e store (replicate 576 0) flit

abbrev pub gives : Answer → End → Answered Answer
gives answer end = record { answer = answer; end = end }

-- ---- the table

pub record BenchCases : Type 0 where
  -- 1. "Zero control flit: right." Its run length, 0, is one of a control flit.
  pub case_1 : ((fields_of zero_flit).run.0 ≡ 0) × (right zero_flit ≡ true)
  -- 2. "Zero but ACK 16: bytes 56..63 00 00 00 28 93 70 0B E4." The flit is sent so, and is right.
  pub case_2 : (drop 56 (acks_sent 16) ≡ 0x00 ∷ 0x00 ∷ 0x00 ∷ 0x28 ∷ 0x93 ∷ 0x70 ∷ 0x0B ∷ 0xE4 ∷ []) × (right (acks_sent 16) ≡ true)
  -- 3. "ACK 8: 00 00 00 94 49 B8 05 72."
  pub case_3 : (drop 56 (acks_sent 8) ≡ 0x00 ∷ 0x00 ∷ 0x00 ∷ 0x94 ∷ 0x49 ∷ 0xB8 ∷ 0x05 ∷ 0x72 ∷ []) × (right (acks_sent 8) ≡ true)
  -- 4. "ACK 24: 00 00 00 BC DA C8 0E 96."
  pub case_4 : (drop 56 (acks_sent 24) ≡ 0x00 ∷ 0x00 ∷ 0x00 ∷ 0xBC ∷ 0xDA ∷ 0xC8 ∷ 0x0E ∷ 0x96 ∷ []) × (right (acks_sent 24) ≡ true)
  -- 5. "Wanted 0, start 65535: d = 1, run." From mode run, and from mode wait.
  pub case_5 : (behind (wanting 0) 65535 ≡ 1)
      × (receive_answers (wanting 0) (replay_from 65535) ≡ gives answer.Replayed (with_mode Run (with_position 65535 (wanting 0))))
      × (receive_answers (with_mode Wait (wanting 0)) (replay_from 65535) ≡ gives answer.Replayed (with_mode Run (with_position 65535 (wanting 0))))
  -- 6. "Wanted 5, start 6: d = 65535, ahead." Then the end waits, and replay is pending.
  pub case_6 : (behind (wanting 5) 6 ≡ 65535)
      × (receive_answers (wanting 5) (replay_from 6) ≡ gives answer.Ahead (with_mode Wait (with_pending true (with_position 6 (wanting 5)))))
  -- 7. "C = 8 refused, 9 not."
  pub case_7 : (start_answers 8 ≡ Err refusal.Store) × (start_answers 9 ≡ Ok tt)
  -- 8. "C = 1,024 not, 1,025 refused."
  pub case_8 : (start_answers 1024 ≡ Ok tt) × (start_answers 1025 ≡ Err refusal.Store)
  -- 9. "Run length 8 accepted, 9 FIELD."
  pub case_9 : (accept_answers (control_flit 8) ≡ Ok tt) × (accept_answers (control_flit 9) ≡ Err refusal.Field)
  -- 10. "Untold 40: idle 31, next 9." Untold falls to 9, then to 0.
  pub case_10 : ((first_sent (untold 40)).run.0 ≡ idle_kind)
      × ((first_sent (untold 40)).acks.0 ≡ 31)
      × (end_sent (untold 40) ≡ untold 9)
      × ((first_sent (untold 9)).run.0 ≡ idle_kind)
      × ((first_sent (untold 9)).acks.0 ≡ 9)
      × (end_sent (untold 9) ≡ untold 0)
  -- 11. "Discards 63 to 64: pending." A wrong flit is discarded in mode wait, and the count becomes 0.
  pub case_11 : (right wrong_flit ≡ false)
      × (receive_answers (discarding 63) wrong_flit ≡ gives answer.Discarded (with_pending true (discarding 0)))
  -- 12. "A fresh end's replay flit acknowledges 65535." It is sent when replay is pending.
  pub case_12 : ((first_sent (with_pending true (fresh 9))).run.0 ≡ replay_kind) × ((first_sent (with_pending true (fresh 9))).last.0 ≡ 65535)
