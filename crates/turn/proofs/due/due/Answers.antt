-- The first of the rules that is due.
use Rattle.turn.specs.laws.Deciding.{due_cases}
use Rattle.turn.proofs.due.due.Goals as goal

pub returns-then-is_due : goal.returns-then-is_due
returns-then-is_due c = search due_cases

pub returns-then-is_due-2 : goal.returns-then-is_due-2
returns-then-is_due-2 c = search due_cases

pub returns : goal.returns
returns c = search due_cases
