-- Both counts.
use Rattle.votes.specs.Votes.{one_alone}
use Rattle.votes.proofs.one_alone.Goals as goal

pub returns : goal.returns
unfolding one_alone
returns c = cc
