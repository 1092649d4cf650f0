-- `agreement::restore_gives` states the theorem of specs/EngineRestores.antt.
use Rattle.agreement.proofs.laws.EngineRestores.{restore_gives}
use Rattle.agreement.proofs.restore_gives.Goals as goal

pub returns : goal.returns
returns c = restore_gives
