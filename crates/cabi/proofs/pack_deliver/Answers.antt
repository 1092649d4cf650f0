-- The number of the answer.
use Rattle.cabi.specs.laws.Cases.{line_cases}
use Rattle.cabi.proofs.pack_deliver.Goals as goal

pub entry_number-requires : goal.entry_number-requires
entry_number-requires c = search line_cases

pub returns : goal.returns
returns c = record {
  answer = search line_cases;
  words = search line_cases;
  bytes = search line_cases;
}
