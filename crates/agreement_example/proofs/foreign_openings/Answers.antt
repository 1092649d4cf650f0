-- `agreement_example::foreign_openings` states a theorem of proofs/laws/Foreign.antt.
use Rattle.agreement_example.proofs.laws.Foreign.{foreign_meet}
use Rattle.agreement_example.proofs.foreign_openings.Goals as goal

pub returns : goal.returns
returns c = foreign_meet
