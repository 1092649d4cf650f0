-- `agreement::output_first` states the theorem of proofs/laws/EngineDemand.antt.
use Rattle.agreement.proofs.laws.EngineDemand.{engine_output_first}
use Rattle.agreement.proofs.output_first.Goals as goal

pub returns : goal.returns
returns c = engine_output_first
