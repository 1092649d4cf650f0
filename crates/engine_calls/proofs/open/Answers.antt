-- What came of it, by the callee's contract.
use Rattle.engine_calls.specs.laws.Cases.{opens_by}
use Rattle.engine_calls.specs.laws.Given.{opening_of}
use Rattle.engine_calls.proofs.open.Goals as goal

pub returns : goal.returns
returns c = record {
  given = search opening_of;
  result = search opens_by;
}
