-- The word, where the list is right.
use Rattle.opening.specs.laws.GivenCases.{given_cases}
use Rattle.opening.proofs.weights.weights_word.Goals as goal

pub returns-then-not-weights_given : goal.returns-then-not-weights_given
returns-then-not-weights_given c = search given_cases

pub overflow_cast-n : goal.overflow_cast-n
overflow_cast-n c = search given_cases

pub returns : goal.returns
returns c = search given_cases
