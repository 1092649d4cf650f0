-- The number and the bytes of each call.
use Rattle.costliest_calls.specs.laws.Cases.{write_cases}
use borrow.Author.Rules.{rules}
use Rattle.costliest_calls.proofs.write_call.Goals as goal

pub overflow_mul-result : goal.overflow_mul-result
overflow_mul-result c = search write_cases

pub overflow_add-result : goal.overflow_add-result
overflow_add-result c = search write_cases

pub overflow_add-result-in-Delivery : goal.overflow_add-result-in-Delivery
overflow_add-result-in-Delivery c = search (rules, write_cases)

pub returns-in-Delivery : goal.returns-in-Delivery
returns-in-Delivery c = search write_cases
