-- `agreement::demand_three` states the theorem of proofs/laws/EngineDemand.antt.
use Rattle.agreement.proofs.laws.EngineDemand.{engine_agrees}
use Rattle.agreement.proofs.demand_three.Goals as goal

pub returns : goal.returns
returns c = engine_agrees
