-- `agreement_example::boxed_concentrators` states a theorem of specs/Boxed.antt.
use Rattle.agreement_example.proofs.laws.Boxed.{boxed_meet}
use Rattle.agreement_example.proofs.boxed_concentrators.Goals as goal

pub returns : goal.returns
returns c = boxed_meet
