-- The number of the answer.
use Rattle.cabi.specs.laws.Cases.{request_number}
use borrow.Author.Rules.{rules}
use Rattle.cabi.proofs.pack_box_request.Goals as goal

pub returns : goal.returns
returns c = record {
  answer = search request_number;
  words = search rules;
}
