-- `agreement::named_before` states a theorem of specs/Agreement.antt.
use Rattle.agreement.proofs.laws.Agreement.{named}
use Rattle.agreement.proofs.named_before.Goals as goal

pub returns : goal.returns
returns c = named
