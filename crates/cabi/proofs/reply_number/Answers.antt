-- Each answer's number.
use Rattle.cabi.specs.laws.Cases.{reply_cases}
use Rattle.cabi.proofs.reply_number.Goals as goal

pub overflow_mul-result : goal.overflow_mul-result
overflow_mul-result c = search reply_cases

pub overflow_add-result : goal.overflow_add-result
overflow_add-result c = search reply_cases

pub returns-in-Some : goal.returns-in-Some
returns-in-Some c = search reply_cases
