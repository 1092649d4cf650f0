-- The decision, then the next round.
use Rattle.turn.proofs.laws.Applying.{apply_cases}
use Rattle.turn.proofs.apply.move_vote.Goals as goal

pub returns : goal.returns
returns c = search apply_cases
