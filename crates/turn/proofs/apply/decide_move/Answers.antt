-- The decision, where the move takes one.
use Rattle.turn.proofs.laws.Applying.{apply_cases}
use Rattle.turn.proofs.apply.decide_move.Goals as goal

pub returns-then-move_decides : goal.returns-then-move_decides
returns-then-move_decides c = search apply_cases

pub returns-else-move_decides : goal.returns-else-move_decides
returns-else-move_decides c = search apply_cases
