-- The number of the answer.
use Rattle.cabi.specs.laws.Conversions.{conversion_number_lem}
use borrow.Author.Rules.{rules}
use Rattle.cabi.proofs.pack_csv_to_drill.Goals as goal

pub returns : goal.returns
returns c = record {
  answer = search conversion_number_lem;
  bytes = search rules;
}
