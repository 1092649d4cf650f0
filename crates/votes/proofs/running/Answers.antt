-- `running` tests the range of the round.
use Rattle.votes.specs.Votes.{running}
use Rattle.votes.proofs.running.Goals as goal

pub returns : goal.returns
unfolding running
returns c = cc
