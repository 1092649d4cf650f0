-- `agreement_example::finishing_concentrators` states a theorem of specs/Finishing.antt.
use Rattle.agreement_example.proofs.laws.Finishing.{finishing_meet}
use Rattle.agreement_example.proofs.finishing_concentrators.Goals as goal

pub returns : goal.returns
returns c = finishing_meet
