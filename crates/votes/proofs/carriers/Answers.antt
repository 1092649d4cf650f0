-- The groups of the accepted values, one over the other, weighed at once.
use Rattle.votes.specs.laws.Cases.{carriers_weighed}
use Rattle.votes.proofs.carriers.Goals as goal

pub returns : goal.returns
returns c = search carriers_weighed
