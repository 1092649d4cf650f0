-- `aux_value` takes the value accepted first, else the accepted one.
use Rattle.votes.specs.laws.Cases.{auxes}
use Rattle.votes.proofs.aux_value.Goals as goal

pub returns-then-one_accepted_first : goal.returns-then-one_accepted_first
returns-then-one_accepted_first c = search auxes

pub returns-then-accepted : goal.returns-then-accepted
returns-then-accepted c = search auxes

pub returns-then-accepted-2 : goal.returns-then-accepted-2
returns-then-accepted-2 c = search auxes

pub returns : goal.returns
returns c = search auxes
