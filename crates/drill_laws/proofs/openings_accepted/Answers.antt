-- `drill_laws::openings_accepted` states a theorem of specs/Demands.antt.
use Rattle.drill_laws.proofs.laws.Demands.{openings_accepted}
use Rattle.drill_laws.proofs.openings_accepted.Goals as goal

pub returns : goal.returns
returns c = openings_accepted
