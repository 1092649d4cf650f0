-- `accepted` asks for 2·ta + 1 senders.
use Rattle.votes.specs.Votes.{accepted}
use Rattle.votes.proofs.accepted.Goals as goal

pub returns : goal.returns
unfolding accepted
returns c = cc
