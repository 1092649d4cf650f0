-- The weights as one word, then the answer.
use Rattle.opening.specs.laws.Cases.{open_cases}
use Rattle.opening.proofs.answer.Goals as goal

pub returns : goal.returns
returns c = search open_cases
