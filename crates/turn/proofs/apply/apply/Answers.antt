-- The count, then the marks; nothing where the act is idle.
use Rattle.turn.proofs.laws.Applying.{apply_cases}
use Rattle.turn.proofs.apply.apply.Goals as goal

pub returns-then-is_due : goal.returns-then-is_due
returns-then-is_due c = search apply_cases

pub returns-else-is_due : goal.returns-else-is_due
returns-else-is_due c = search apply_cases
