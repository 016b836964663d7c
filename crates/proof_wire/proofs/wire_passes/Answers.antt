-- `proof_wire::wire_passes` meets its contract by the theorem.
use Rattle.proof_wire.proofs.Acceptance.{third_test}
use Rattle.proof_wire.proofs.wire_passes.Goals as goal

pub returns : goal.returns
returns c = third_test
