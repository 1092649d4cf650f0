-- `vote_act` takes the start before the relays before the round.
use Rattle.votes.specs.laws.Cases.{either, due_second}
use Rattle.votes.specs.Votes.{vote_act}
use Rattle.votes.proofs.vote_act.Goals as goal

pub returns-then-is_due : goal.returns-then-is_due
unfolding vote_act
returns-then-is_due c = search either

pub returns-then-is_due-2 : goal.returns-then-is_due-2
unfolding vote_act
returns-then-is_due-2 c = search either

pub returns : goal.returns
unfolding vote_act
returns c = search due_second
