-- The second field is a number, or the line cannot be applied.
use Rattle.restore.specs.laws.First.{n_cases}
use Rattle.restore.proofs.first.open_by.Goals as goal

pub returns-in_default : goal.returns-in_default
returns-in_default c = search n_cases

pub returns : goal.returns
returns c = search n_cases
