-- The bench cases hold: each is computed, but that a flit that is sent is right, which the check's theorem says. Both sides of each equation
-- come to the same once the definitions named below are unfolded, down to the division of the check.
use mathlib.Core.Path.{◌≡◌, refl}
use mathlib.Core.Bool.{true, false}
use Prim.Native.Nat.{ℕ}
use native.Mathlib.Omega.{arith}
use Rattle.flit_number.specs.Numbers.{after, difference, acknowledge_for, wanted_by}
use Rattle.crc.specs.Unit.{polynomial, bits, right}
use Rattle.crc.specs.Seal.{with_check, check_of, sealed}
use Rattle.crc.proofs.Sealing.{sealed_right}
use Rattle.flit_read.specs.Bytes.{number, bytes}
use Rattle.flit_read.specs.Fields.{fields_of, acceptable}
use Rattle.flit_write.specs.Flits.{control_told, idle_flit, replay_flit}
use Rattle.end_state.specs.State.{store_fits, fresh, start}
use Rattle.end_state.specs.Ring.{ring_place, walk_begun, walk_over}
use Rattle.end_state.specs.Refusals.{store_is, counts_sound, numbers_sound, units_sound, sound}
use Rattle.accept_verdict.specs.Admission.{unit_shaped, accept_verdict as accept_verdict}
use Rattle.accept.specs.Accept.{accept}
use Rattle.send_state.specs.Moves.{moved}
use Rattle.send_replay.specs.Replays.{replay_sent}
use Rattle.send_burst.specs.Burst.{burst}
use Rattle.send.specs.Send.{send_verdict as send_verdict, send, send_output}
use Rattle.receive_test.specs.Arrivals.{holds, closes, run_wrong, stall_wrong, straddles, damaged, skips, newly_covered, past_sent}
use Rattle.receive_answer.specs.Answers.{replay_answer, run_answer, wait_answer}
use Rattle.receive_free.specs.Acknowledge.{last_border, freed, acknowledged}
use Rattle.receive_take.specs.Taken.{replay_taken}
use Rattle.receive_state.specs.Effects.{waiting, discarded, end_after}
use Rattle.receive.specs.Receive.{receive_verdict as receive_verdict, answer_to, receive}
use Rattle.proof_cases.specs.Cases.{zero_flit, acks_sent, BenchCases}

-- a flit that is sent is right
told_right : (acks : ℕ) → right (acks_sent acks) ≡ true
unfolding control_told
told_right acks = sealed_right (control_told zero_flit acks false) (omega arith)

pub bench_cases : BenchCases
unfolding after difference acknowledge_for wanted_by polynomial bits right with_check check_of sealed number bytes fields_of acceptable control_told idle_flit replay_flit store_fits fresh start ring_place walk_begun walk_over store_is counts_sound numbers_sound units_sound sound unit_shaped accept_verdict accept send_verdict replay_sent burst moved send send_output holds closes run_wrong stall_wrong straddles damaged skips newly_covered past_sent replay_answer run_answer wait_answer last_border freed acknowledged receive_verdict waiting discarded replay_taken end_after answer_to receive
bench_cases =
    record {
      case_1 = (refl, refl);
      case_2 = (refl, told_right 16);
      case_3 = (refl, told_right 8);
      case_4 = (refl, told_right 24);
      case_5 = (refl, refl, refl);
      case_6 = (refl, refl);
      case_7 = (refl, refl);
      case_8 = (refl, refl);
      case_9 = (refl, refl);
      case_10 = (refl, refl, refl, refl, refl, refl);
      case_11 = (refl, refl);
      case_12 = (refl, refl);
    }
