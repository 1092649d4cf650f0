-- `agreement::without_restores` states the theorem of proofs/laws/EnginePlain.antt.
use Rattle.agreement.proofs.laws.EnginePlain.{plain_meets}
use Rattle.agreement.proofs.without_restores.Goals as goal

pub returns : goal.returns
returns c = plain_meets
