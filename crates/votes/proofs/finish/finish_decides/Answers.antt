-- The definition's own test or weight.
use Rattle.votes.specs.Finishing.{finish_decides}
use Rattle.votes.proofs.finish.finish_decides.Goals as goal

pub returns : goal.returns
unfolding finish_decides
returns c = cc
