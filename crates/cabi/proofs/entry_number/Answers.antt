-- Each answer has its number; the length of a line fits.
use Rattle.cabi.specs.laws.Cases.{entry_cases}
use Rattle.cabi.proofs.entry_number.Goals as goal

pub overflow_mul-result : goal.overflow_mul-result
overflow_mul-result c = search entry_cases

pub returns-in-Ok : goal.returns-in-Ok
returns-in-Ok c = search entry_cases
