-- The part that is lent is the state.
use Rattle.drill_feeder.specs.laws.Cases.{state_cases}
use Rattle.drill_feeder.proofs.calls.closed_of.Goals as goal

pub returns : goal.returns
returns c = search state_cases
