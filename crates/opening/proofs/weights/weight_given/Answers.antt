-- The weight lies in its range.
use Rattle.opening.specs.laws.GivenCases.{given_cases}
use Rattle.opening.proofs.weights.weight_given.Goals as goal

pub returns : goal.returns
returns c = search given_cases
