-- A set with a value is held.
use Rattle.commits.specs.Commits.{commit_held}
use Rattle.commits.proofs.commit_held.Goals as goal

pub returns : goal.returns
unfolding commit_held
returns c = cc
