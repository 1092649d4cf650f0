-- `agreement_example::unopened_concentrator` states a theorem of proofs/laws/Unopened.antt.
use Rattle.agreement_example.proofs.laws.Unopened.{unopened_meet}
use Rattle.agreement_example.proofs.unopened_concentrator.Goals as goal

pub returns : goal.returns
returns c = unopened_meet
