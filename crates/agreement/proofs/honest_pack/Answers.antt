-- `agreement::honest_pack` states the theorem of proofs/laws/EngineDemand.antt.
use Rattle.agreement.proofs.laws.EngineDemand.{engine_honest_pack}
use Rattle.agreement.proofs.honest_pack.Goals as goal

pub returns : goal.returns
returns c = engine_honest_pack
