-- The part that is lent is the state.
use Rattle.drill_feeder.specs.laws.Cases.{state_cases}
use Rattle.drill_feeder.proofs.calls.report_of.Goals as goal

pub returns : goal.returns
returns c = record {
  answer = search state_cases;
  named_words = search state_cases;
  in_force_words = search state_cases;
}
