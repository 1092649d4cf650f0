use Rattle.opening.specs.laws.GivenCases.{packing}
use Rattle.opening.proofs.weights.pack.Goals as goal

pub loop-k-init : goal.loop-k-init
loop-k-init c = search packing

pub loop-k-preserved : goal.loop-k-preserved
loop-k-preserved c = search packing

pub returns : goal.returns
returns c = search packing
