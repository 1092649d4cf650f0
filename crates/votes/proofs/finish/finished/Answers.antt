-- The definition's own test or weight.
use Rattle.votes.specs.Finishing.{finished}
use Rattle.votes.proofs.finish.finished.Goals as goal

pub returns : goal.returns
unfolding finished
returns c = cc
