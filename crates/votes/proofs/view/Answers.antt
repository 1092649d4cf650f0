-- `view` looks which accepted values are carried.
use Rattle.votes.specs.laws.Given.{view_given}
use Rattle.votes.proofs.view.Goals as goal

pub returns : goal.returns
unfolding view_given
returns c = cc
