-- The definition's own test.
use Rattle.restore.specs.laws.First.{count_cases}
use Rattle.restore.proofs.first.count_right.Goals as goal

pub returns : goal.returns
returns c = search count_cases
