-- The second field, if there is one.
use Rattle.restore.specs.laws.First.{second_cases}
use Rattle.restore.proofs.first.second_number.Goals as goal

pub returns-then-e-line : goal.returns-then-e-line
returns-then-e-line c = search second_cases

pub returns : goal.returns
returns c = search second_cases
