-- The four marks of p, moved to the front of their groups.
use Rattle.quorum.specs.laws.Weights.{weight_cases}
use Rattle.quorum.proofs.weight_of.Goals as goal

pub returns-then-p-lt1 : goal.returns-then-p-lt1
returns-then-p-lt1 c = search weight_cases

pub returns-then-p-gt16 : goal.returns-then-p-gt16
returns-then-p-gt16 c = search weight_cases

pub overflow_cast-result-2 : goal.overflow_cast-result-2
overflow_cast-result-2 c = search weight_cases

pub returns : goal.returns
returns c = search weight_cases
