-- `agreement::agreement` states a theorem of specs/Agreement.antt.
use Rattle.agreement.proofs.laws.Agreement.{agree}
use Rattle.agreement.proofs.agreement.Goals as goal

pub returns : goal.returns
returns c = agree
