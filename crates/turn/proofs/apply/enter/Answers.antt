-- The round, and its EST unless it is round 33.
use Rattle.turn.proofs.laws.Applying.{apply_cases}
use Rattle.turn.proofs.apply.enter.Goals as goal

pub returns-then-r : goal.returns-then-r
returns-then-r c = search apply_cases

pub returns : goal.returns
returns c = search apply_cases
