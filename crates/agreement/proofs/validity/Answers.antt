-- `agreement::validity` states a theorem of specs/Agreement.antt.
use Rattle.agreement.proofs.laws.Agreement.{valid}
use Rattle.agreement.proofs.validity.Goals as goal

pub returns : goal.returns
returns c = valid
