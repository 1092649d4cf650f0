-- The coin, and no decision that stands.
use Rattle.turn.proofs.laws.Applying.{apply_cases}
use Rattle.turn.proofs.apply.move_decides.Goals as goal

pub returns : goal.returns
returns c = search apply_cases
