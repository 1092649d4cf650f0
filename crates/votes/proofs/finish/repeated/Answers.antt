-- FINISHes of weight ta + 1.
use Rattle.votes.specs.Finishing.{repeated}
use Rattle.votes.proofs.finish.repeated.Goals as goal

pub returns : goal.returns
unfolding repeated
returns c = cc
