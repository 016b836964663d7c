-- The fields of control, idle and replay flits, each position written once, in the order of 01, "Fields". The check is the crate
-- crc's.
use Rattle.std.specs.Prelude.{Bool, ◌&&◌, List, ℕ, leb, eqb, drop}
use Rattle.flit_read.specs.Bytes.{number, Field, span, bit, read, marked}
use Rattle.flit_read.specs.declared.Fields.{Fields}

-- DL content is bytes 56 to 63, bit b in byte 56 + b/8
abbrev pub content : List ℕ → ℕ
content flit = number (drop 56 flit)

-- Control: what stands in every flit
abbrev pub ack_count : Field
ack_count = span 27 23

abbrev pub data_stalled : Field
data_stalled = bit 19

abbrev pub short_flit_next : Field
short_flit_next = bit 18

-- Control: what the link writes. Below it stands what is carried as given: template 17:12, bad data flit 11:4 and the run length.
abbrev pub link_bits : Field
link_bits = span 63 18

abbrev pub run_length : Field
run_length = span 3 0

-- Idle
abbrev pub stalled_run_length : Field
stalled_run_length = span 7 4

-- Replay: bits 159:0 in bytes 44 to 63. Bits 159:96 are the DL content, so that what stands in every flit stands in a replay flit
-- at the same place, 96 bits further on.
abbrev pub replay_content : List ℕ → ℕ
replay_content flit = number (drop 44 flit)

abbrev pub nack : Field
nack = bit 116

abbrev pub replay_data_stalled : Field
replay_data_stalled = bit 115

abbrev pub link_errors : Field
link_errors = span 111 104

abbrev pub previous_run_length : Field
previous_run_length = span 103 100

abbrev pub replay_run_length : Field
replay_run_length = span 99 96

abbrev pub starting_number : Field
starting_number = span 95 80

abbrev pub acknowledge_number : Field
acknowledge_number = span 79 64

abbrev pub link_information : Field
link_information = span 63 0

-- run lengths that say what a flit is: 0 to 8 of a control flit, and these two
abbrev pub replay_kind : ℕ
replay_kind = 10

abbrev pub idle_kind : ℕ
idle_kind = 15

-- all that is read of an arriving flit
unfoldable pub fields_of : List ℕ → Fields
fields_of flit =
    record {
      information = read link_information (replay_content flit);
      acks = record { 0 = read ack_count (content flit) };
      run = record { 0 = read run_length (content flit) };
      stall = record { 0 = read stalled_run_length (content flit) };
      previous = record { 0 = read previous_run_length (replay_content flit) };
      start = record { 0 = read starting_number (replay_content flit) };
      last = record { 0 = read acknowledge_number (replay_content flit) };
      stalled = marked data_stalled (content flit);
      short = marked short_flit_next (content flit);
      nack = marked nack (replay_content flit);
    }

-- a control flit as accept takes it (01, Refusals, 7): run length at most 8, no bit of 63:18 set
unfoldable pub acceptable : List ℕ → Bool
acceptable flit = leb (read run_length (content flit)) 8 && eqb (read link_bits (content flit)) 0
