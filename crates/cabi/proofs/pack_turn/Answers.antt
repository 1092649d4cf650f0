-- The number of the outcome.
use Rattle.cabi.specs.laws.Cases.{turn_cases}
use Rattle.cabi.proofs.pack_turn.Goals as goal

pub outcome_number-requires : goal.outcome_number-requires
outcome_number-requires c = search turn_cases

pub returns : goal.returns
returns c = record {
  answer = search turn_cases;
  words = search turn_cases;
  bytes = search turn_cases;
  line_bytes = search turn_cases;
}
