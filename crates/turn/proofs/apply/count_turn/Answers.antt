-- One more than was stored.
use Rattle.turn.proofs.laws.Applying.{apply_cases}
use Rattle.turn.proofs.apply.count_turn.Goals as goal

pub returns : goal.returns
returns c = search apply_cases
