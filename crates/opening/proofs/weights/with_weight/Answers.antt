-- Four marks.
use Rattle.opening.specs.laws.GivenCases.{packing}
use Rattle.opening.proofs.weights.with_weight.Goals as goal

pub returns : goal.returns
returns c = search packing
