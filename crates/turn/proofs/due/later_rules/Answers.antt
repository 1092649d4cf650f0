-- SEND, ECHO, or the last rules.
use Rattle.turn.specs.laws.Choosing.{later_cases}
use Rattle.turn.proofs.due.later_rules.Goals as goal

pub returns-then-is_due : goal.returns-then-is_due
returns-then-is_due c = search later_cases

pub returns-then-is_due-2 : goal.returns-then-is_due-2
returns-then-is_due-2 c = search later_cases

pub returns : goal.returns
returns c = search later_cases
