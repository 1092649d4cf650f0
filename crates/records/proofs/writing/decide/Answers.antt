-- The word of the value.
use Rattle.records.specs.laws.Cases.{decision_cases}
use Rattle.records.proofs.writing.decide.Goals as goal

pub returns-then-b-eq0 : goal.returns-then-b-eq0
returns-then-b-eq0 c = search decision_cases

pub returns : goal.returns
returns c = search decision_cases
