-- The marks of the counts that are 0, turned over and weighed.
use Rattle.commits.specs.laws.Cases.{commits_counted}
use Rattle.commits.proofs.commits_held.Goals as goal

pub returns : goal.returns
returns c = search commits_counted
