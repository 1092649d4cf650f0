-- A weight that is there, or 0.
use Rattle.opening.specs.laws.Cases.{open_cases}
use Rattle.opening.proofs.weights.weight_item.Goals as goal

pub returns-then-p-lt1 : goal.returns-then-p-lt1
returns-then-p-lt1 c = search open_cases

pub returns-then-k-weights : goal.returns-then-k-weights
returns-then-k-weights c = search open_cases

pub returns-else-k-weights : goal.returns-else-k-weights
returns-else-k-weights c = search open_cases
