-- The parts that are lent are the state and the room.
use Rattle.drill_feeder.specs.laws.Cases.{turn_cases}
use Rattle.drill_feeder.proofs.calls.turn_of.Goals as goal

pub returns : goal.returns
returns c = record {
  answer = search turn_cases;
  state = search turn_cases;
  message = search turn_cases;
}
