-- `agreement_example::decided_by_finishes` states a theorem of specs/Finishing.antt.
use Rattle.agreement_example.proofs.laws.Finishing.{decided_by_finishes}
use Rattle.agreement_example.proofs.decided_by_finishes.Goals as goal

pub returns : goal.returns
returns c = decided_by_finishes
