-- What came of it, by the callee's contract.
use Rattle.engine_calls.specs.laws.Cases.{delivers_by}
use Rattle.engine_calls.specs.laws.Given.{bytes_of}
use Rattle.engine_calls.proofs.deliver.Goals as goal

pub returns : goal.returns
returns c = record {
  given = search bytes_of;
  result = search delivers_by;
}
