-- `est_count` weighs the senders of EST b.
use Rattle.votes.specs.Votes.{est_count}
use Rattle.votes.proofs.est_count.Goals as goal

pub returns : goal.returns
unfolding est_count
returns c = cc
