-- `given_again` goes by the length.
use Rattle.cabi.specs.laws.Cases.{again_cases}
use Rattle.cabi.proofs.given_again.Goals as goal

pub returns-then-length-gt0 : goal.returns-then-length-gt0
returns-then-length-gt0 c = search again_cases

pub returns-else-length-gt0 : goal.returns-else-length-gt0
returns-else-length-gt0 c = search again_cases
