-- Of the settings only n and the weights are read.
use Rattle.commits.specs.laws.Cases.{leader_counted}
use Rattle.commits.proofs.set_leader.Goals as goal

pub returns : goal.returns
returns c = search leader_counted
