-- A state has its settings.
use Rattle.delivery.specs.laws.Cases.{finish_here}
use Rattle.delivery.proofs.record_finish.Goals as goal

pub returns : goal.returns
returns c = search finish_here
