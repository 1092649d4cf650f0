-- `agreement_example::four_concentrators` states a theorem of specs/Four.antt.
use Rattle.agreement_example.proofs.laws.Four.{four_meet}
use Rattle.agreement_example.proofs.four_concentrators.Goals as goal

pub returns : goal.returns
returns c = four_meet
