-- One end of the abstract link: what it keeps to send, and what it keeps of receiving.
use mathlib.Core.Path.{◌≡◌}
use mathlib.Core.Bool.{Bool, false}
use mathlib.Core.List.{List, []}
use Prim.Native.Nat.{ℕ}
use native.Mathlib.Omega.{arith}
use Rattle.proof_model.proofs.Stream.{Bytes, Block}

pub data Mode : Type 0 where
  run wait down : Mode

pub no_wait : {m : Mode} → m ≡ run → m ≡ wait → ⊥
no_wait h k = let z : ◌≡◌ {A = ℕ} 0 1 = cc in omega arith

-- what it sends; borders in units, acked in flits
pub record Sender : Type 0 where
  pub accepted : ℕ
  pub oldest : ℕ
  pub cursor : ℕ
  pub sent : ℕ
  pub acked : ℕ
  pub pending : Bool

pub record Receiver : Type 0 where
  pub mode : Mode
  pub wanted : ℕ
  pub position : ℕ
  pub owes : ℕ
  pub stalled : Bool
  pub hold : List Bytes
  pub untold : ℕ
  pub out : List Block

pub record End : Type 0 where
  pub s : Sender
  pub r : Receiver

unfoldable pub fresh : End
fresh =
    record {
      s = record { accepted = 0; oldest = 0; cursor = 0; sent = 0; acked = 0; pending = false };
      r = record { mode = run; wanted = 0; position = 0; owes = 0; stalled = false; hold = []; untold = 0; out = [] };
    }
