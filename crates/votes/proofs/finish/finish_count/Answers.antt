-- The definition's own test or weight.
use Rattle.votes.specs.Finishing.{finish_count}
use Rattle.votes.proofs.finish.finish_count.Goals as goal

pub returns : goal.returns
unfolding finish_count
returns c = cc
