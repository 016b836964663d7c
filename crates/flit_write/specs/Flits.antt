-- The flits that an end writes (01, "Fields"; "Send"). Reserved bits and unnamed bytes of DL-to-DL flits are 0, short flit next is
-- sent 0.
use Rattle.std.specs.Prelude.{Bool, List, ◌++◌, ℕ, ◌+◌, take, replicate}
use Rattle.crc.specs.Seal.{sealed}
use Rattle.flit_read.specs.Bytes.{bytes, below, write, mark}
use Rattle.flit_write.specs.declared.Replay.{Replay}
use Rattle.flit_read.specs.Fields.{content, ack_count, data_stalled, link_bits, run_length, stalled_run_length, nack, replay_data_stalled, link_errors, previous_run_length, replay_run_length, starting_number, acknowledge_number, link_information, replay_kind, idle_kind}

-- the flit with another DL content
abbrev pub with_content : List ℕ → ℕ → List ℕ
with_content flit c = take 56 flit ++ bytes 8 c

-- a control flit with bits 63:18 zero, as accept takes it and as it is handed on
unfoldable pub bare_control : List ℕ → List ℕ
bare_control flit = with_content flit (below link_bits (content flit))

-- a control flit as it is sent, but for its check, which covers its data too
unfoldable pub control_told : List ℕ → ℕ → Bool → List ℕ
control_told flit acks stalled = with_content flit (below link_bits (content flit) + mark data_stalled stalled + write ack_count acks)

unfoldable pub idle_flit : ℕ → Bool → ℕ → List ℕ
idle_flit acks stalled owed =
    sealed
    (replicate 56 0
    ++ bytes 8 (write run_length idle_kind + write stalled_run_length owed + mark data_stalled stalled + write ack_count acks))

unfoldable pub replay_flit : Replay → List ℕ
replay_flit r =
    sealed
    (replicate 44 0
    ++ bytes 20
    (write link_information r.information + write acknowledge_number r.last.0
    + write starting_number r.start.0
    + write replay_run_length replay_kind
    + write previous_run_length r.previous.0
    + write link_errors r.errors
    + mark replay_data_stalled r.stalled
    + mark nack r.nack))
