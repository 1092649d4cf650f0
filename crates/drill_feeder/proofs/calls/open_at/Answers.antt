-- The parts that are lent are the state and n weights of 1.
use Rattle.drill_feeder.specs.laws.Cases.{state_cases}
use Rattle.drill_feeder.proofs.calls.open_at.Goals as goal

pub returns : goal.returns
returns c = search state_cases
