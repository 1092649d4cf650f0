-- `relay_round` takes 0 before 1.
use Rattle.votes.specs.laws.Cases.{either}
use Rattle.votes.specs.Votes.{relay_round}
use Rattle.votes.proofs.relay_round.Goals as goal

pub returns-then-is_due : goal.returns-then-is_due
unfolding relay_round
returns-then-is_due c = search either

pub returns : goal.returns
unfolding relay_round
returns c = search either
