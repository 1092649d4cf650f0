-- An EST of 1 by the settings of the state, one of 0 without.
use Rattle.delivery.specs.laws.Cases.{est_cases}
use Rattle.delivery.proofs.record_est.Goals as goal

pub returns-then-b-eq1 : goal.returns-then-b-eq1
returns-then-b-eq1 c = search est_cases

pub returns : goal.returns
returns c = search est_cases
