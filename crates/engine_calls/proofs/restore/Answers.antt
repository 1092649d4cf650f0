-- What came of it, by the callee's contract.
use Rattle.engine_calls.specs.laws.Cases.{restores_by}
use Rattle.engine_calls.proofs.restore.Goals as goal

pub returns : goal.returns
returns c = search restores_by
