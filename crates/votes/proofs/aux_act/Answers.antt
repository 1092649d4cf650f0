-- `aux_act` sends once a round.
use Rattle.votes.specs.laws.Cases.{auxes}
use Rattle.votes.proofs.aux_act.Goals as goal

pub returns-then-aux_sent : goal.returns-then-aux_sent
returns-then-aux_sent c = search auxes

pub returns : goal.returns
returns c = search auxes
