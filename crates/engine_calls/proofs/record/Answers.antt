-- What came of it, by the callee's contract.
use Rattle.engine_calls.specs.laws.Cases.{records_by}
use Rattle.engine_calls.proofs.record.Goals as goal

pub returns : goal.returns
returns c = search records_by
