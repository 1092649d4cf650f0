-- The number of weights, then each.
use Rattle.opening.specs.laws.GivenCases.{given_cases}
use Rattle.opening.proofs.weights.weights_given.Goals as goal

pub returns-then-n-gt-MAX_CONCENTRATORS : goal.returns-then-n-gt-MAX_CONCENTRATORS
returns-then-n-gt-MAX_CONCENTRATORS c = search given_cases

pub returns-then-weights-n : goal.returns-then-weights-n
returns-then-weights-n c = search given_cases

pub returns : goal.returns
returns c = search given_cases
