-- The FINISH, then the decision where there is one.
use Rattle.delivery.specs.laws.Cases.{settle_cases}
use Rattle.delivery.proofs.settle_finish.Goals as goal

pub returns-then-finish_decides : goal.returns-then-finish_decides
returns-then-finish_decides c = search settle_cases

pub returns-else-finish_decides : goal.returns-else-finish_decides
returns-else-finish_decides c = search settle_cases
