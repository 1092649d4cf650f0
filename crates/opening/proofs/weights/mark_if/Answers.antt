-- The mark, where it is to be set.
use Rattle.opening.specs.laws.GivenCases.{packing}
use Rattle.opening.proofs.weights.mark_if.Goals as goal

pub returns-then-b : goal.returns-then-b
returns-then-b c = search packing

pub returns-else-b : goal.returns-else-b
returns-else-b c = search packing
