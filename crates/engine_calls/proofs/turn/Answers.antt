-- What came of it, by the callee's contract.
use Rattle.engine_calls.specs.laws.Cases.{turns_by}
use Rattle.engine_calls.specs.laws.Given.{front_of}
use Rattle.engine_calls.proofs.turn.Goals as goal

pub returns : goal.returns
returns c = record {
  sent = search front_of;
  result = search turns_by;
}
