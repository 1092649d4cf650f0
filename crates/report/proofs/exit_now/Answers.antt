-- The array of outputs gives the exit of the records.
use Rattle.exits.proofs.laws.Now.{exit_stated}
use Rattle.report.proofs.exit_now.Goals as goal

pub returns : goal.returns
returns c = search exit_stated
