-- `agreement_example::restored_concentrator` states a theorem of specs/PowerLost.antt.
use Rattle.agreement_example.proofs.laws.PowerLost.{lost_meets}
use Rattle.agreement_example.proofs.restored_concentrator.Goals as goal

pub returns : goal.returns
returns c = lost_meets
