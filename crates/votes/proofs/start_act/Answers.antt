-- `start_act` takes the four cases of `start_act`.
use Rattle.votes.specs.laws.Cases.{starts}
use Rattle.votes.proofs.start_act.Goals as goal

pub returns-then-round-gt0 : goal.returns-then-round-gt0
returns-then-round-gt0 c = search starts

pub returns-then-output : goal.returns-then-output
returns-then-output c = search starts

pub returns-then-vote_quorum-ones : goal.returns-then-vote_quorum-ones
returns-then-vote_quorum-ones c = search starts

pub returns : goal.returns
returns c = search starts
