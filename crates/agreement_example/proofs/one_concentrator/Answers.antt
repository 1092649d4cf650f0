-- `agreement_example::one_concentrator` states a theorem of specs/One.antt.
use Rattle.agreement_example.proofs.laws.One.{one_meets}
use Rattle.agreement_example.proofs.one_concentrator.Goals as goal

pub returns : goal.returns
returns c = one_meets
