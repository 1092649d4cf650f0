-- `drill_laws::rounds_end` states a theorem of specs/Demands.antt.
use Rattle.drill_laws.proofs.laws.Demands.{rounds_end}
use Rattle.drill_laws.proofs.rounds_end.Goals as goal

pub returns : goal.returns
returns c = rounds_end
