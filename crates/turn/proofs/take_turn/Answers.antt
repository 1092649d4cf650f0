-- What is due is written and recorded.
use Rattle.turn.specs.laws.Taking.{taking_cases}
use Rattle.turn.proofs.take_turn.Goals as goal

pub due-a-requires : goal.due-a-requires
due-a-requires c = search taking_cases

pub apply-requires : goal.apply-requires
apply-requires c = search taking_cases

pub returns : goal.returns
returns c = search taking_cases
