-- `proof_cases::cases_hold` meets its contract by the theorem.
use Rattle.proof_cases.proofs.Theorem.{bench_cases}
use Rattle.proof_cases.proofs.cases_hold.Goals as goal

pub returns : goal.returns
returns c = bench_cases
