-- `agreement_example::weighted_concentrators` states a theorem of specs/Weighted.antt.
use Rattle.agreement_example.proofs.laws.Weighted.{weighted_meet}
use Rattle.agreement_example.proofs.weighted_concentrators.Goals as goal

pub returns : goal.returns
returns c = weighted_meet
