-- `agreement_example::unequal_inputs` states a theorem of proofs/laws/Unequal.antt.
use Rattle.agreement_example.proofs.laws.Unequal.{unequal_meet}
use Rattle.agreement_example.proofs.unequal_inputs.Goals as goal

pub returns : goal.returns
returns c = unequal_meet
