-- `agreement::printed_sessions` states the theorem of proofs/laws/EnginePlain.antt.
use Rattle.agreement.proofs.laws.EnginePlain.{printed_meets}
use Rattle.agreement.proofs.printed_sessions.Goals as goal

pub returns : goal.returns
returns c = printed_meets
