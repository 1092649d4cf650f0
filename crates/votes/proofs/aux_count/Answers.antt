-- `aux_count` weighs the senders of AUX b.
use Rattle.votes.specs.Votes.{aux_count}
use Rattle.votes.proofs.aux_count.Goals as goal

pub returns : goal.returns
unfolding aux_count
returns c = cc
