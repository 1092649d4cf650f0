-- The outputs of the array are those of the state.
use Rattle.exits.proofs.laws.Now.{exit_stated}
use Rattle.turn.proofs.due.exit_now.Goals as goal

pub returns : goal.returns
returns c = search exit_stated
