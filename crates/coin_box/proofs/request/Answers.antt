-- Refused, or noted; then the bit or `sealed`.
use Rattle.coin_box.proofs.laws.Cases.{request_cases}
use Rattle.coin_box.proofs.request.Goals as goal

pub returns-then-not-asks : goal.returns-then-not-asks
returns-then-not-asks c = record {
  reply = search request_cases;
  words = search request_cases;
}

pub overflow_cast-i : goal.overflow_cast-i
overflow_cast-i c = search request_cases

pub overflow_cast-r : goal.overflow_cast-r
overflow_cast-r c = search request_cases

pub returns-then-unsealed : goal.returns-then-unsealed
returns-then-unsealed c = record {
  reply = search request_cases;
  words = search request_cases;
}

pub returns : goal.returns
returns c = record {
  reply = search request_cases;
  words = search request_cases;
}
