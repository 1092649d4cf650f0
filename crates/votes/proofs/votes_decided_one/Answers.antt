-- `votes_decided_one` counts the marks of the votes decided 1.
use Rattle.votes.specs.laws.Cases.{ones_counted}
use Rattle.votes.proofs.votes_decided_one.Goals as goal

pub returns : goal.returns
returns c = search ones_counted
