-- Each outcome's number; the length of a message that is sent fits.
use Rattle.cabi.specs.laws.Cases.{outcome_cases}
use Rattle.cabi.proofs.outcome_number.Goals as goal

pub overflow_mul-result : goal.overflow_mul-result
overflow_mul-result c = search outcome_cases

pub overflow_add-result : goal.overflow_add-result
overflow_add-result c = search outcome_cases

pub returns-in-Sent : goal.returns-in-Sent
returns-in-Sent c = search outcome_cases
