-- Each answer has its number; every part stays within its bits.
use Rattle.cabi.specs.laws.Cases.{restored_cases}
use Rattle.cabi.proofs.restored_number.Goals as goal

pub overflow_mul-result-in-Ok : goal.overflow_mul-result-in-Ok
overflow_mul-result-in-Ok c = search restored_cases

pub overflow_mul-result-in-Ok-2 : goal.overflow_mul-result-in-Ok-2
overflow_mul-result-in-Ok-2 c = search restored_cases

pub overflow_add-result-in-Ok : goal.overflow_add-result-in-Ok
overflow_add-result-in-Ok c = search restored_cases

pub overflow_add-result-in-Ok-2 : goal.overflow_add-result-in-Ok-2
overflow_add-result-in-Ok-2 c = search restored_cases

pub returns-in-Line : goal.returns-in-Line
returns-in-Line c = search restored_cases

pub returns-in-Ok : goal.returns-in-Ok
returns-in-Ok c = search restored_cases
