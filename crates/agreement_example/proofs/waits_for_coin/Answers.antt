-- `agreement_example::waits_for_coin` states a theorem of specs/Boxed.antt.
use Rattle.agreement_example.proofs.laws.Boxed.{waits}
use Rattle.agreement_example.proofs.waits_for_coin.Goals as goal

pub returns : goal.returns
returns c = waits
