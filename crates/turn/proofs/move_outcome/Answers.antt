-- The EST of the next round, or none.
use Rattle.turn.specs.laws.Taking.{outcome_cases}
use Rattle.turn.proofs.move_outcome.Goals as goal

pub returns-then-r-lt-ROUND_LIMIT : goal.returns-then-r-lt-ROUND_LIMIT
returns-then-r-lt-ROUND_LIMIT c = search outcome_cases

pub returns : goal.returns
returns c = search outcome_cases
