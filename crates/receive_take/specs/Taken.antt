-- The state after a flit that is taken, step by step of 01, "Receive" 4 to 6.
use Rattle.std.specs.Prelude.{List, ◌∷◌, ℕ, ◌+◌, take}
use Rattle.flit_number.specs.Numbers.{width, after}
use Rattle.flit_read.specs.declared.Fields.{Fields}
use Rattle.end_state.specs.Update.{with_information, with_owed, with_gathered, with_untold, with_wanted, with_position, with_stalled}
use Rattle.end_state.specs.declared.End.{End}
use Rattle.receive_test.specs.Arrivals.{newly_covered}
use Rattle.receive_free.specs.Acknowledge.{sent_anew, acknowledged}

-- 4. the acknowledgement counts; 5. stalled takes the flit's bit
abbrev pub idled : End → List ℕ → Fields → End
idled e store f = with_stalled f.stalled (acknowledged e store f.acks.0)

-- 5. a control flit: position moves past the unit, data held becomes 0, owed is its run length
unfoldable pub closed : End → List ℕ → Fields → End
closed e store f =
    with_position (after width e.position.0 (e.gathered.0 + 1))
    (with_gathered 0 (with_owed f.run.0 (idled e store f)))

-- at a delivery so does wanted, and untold grows by its flits
unfoldable pub delivered : End → List ℕ → Fields → End
delivered e store f =
    with_wanted (after width e.wanted.0 (e.gathered.0 + 1)) (with_untold (e.untold.0 + (e.gathered.0 + 1)) (closed e store f))

-- 6. a replay flit: link information, NACK, position, owed, stalled
abbrev pub informed : ℕ → End → End
informed information e = with_information (information ∷ take 7 e.information) e

unfoldable pub replay_taken : End → List ℕ → Fields → End
replay_taken e store f =
    with_position f.start.0
    (with_gathered 0
    (with_owed f.previous.0
    (with_stalled f.stalled (sent_anew f.nack (informed f.information (acknowledged e store (newly_covered e f.last.0)))))))
