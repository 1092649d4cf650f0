-- The EST, then the mark where 1 is alone.
use Rattle.delivery.specs.laws.Cases.{one_cases}
use Rattle.delivery.proofs.hold_one.Goals as goal

pub returns-then-one_alone : goal.returns-then-one_alone
returns-then-one_alone c = search one_cases

pub returns-else-one_alone : goal.returns-else-one_alone
returns-else-one_alone c = search one_cases
