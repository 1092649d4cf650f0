-- The refusal, or the turn.
use Rattle.std.proofs.Common.{◌∙◌}
use Rattle.turn.specs.laws.Taking.{turn_cases}
use Rattle.turn.proofs.turn.Goals as goal
use Rattle.settings.specs.laws.Answers.{handed_on}

pub take_turn-requires : goal.take_turn-requires
take_turn-requires c = search (turn_cases, c.in_ok-x.was)

pub returns-in_err-x : goal.returns-in_err-x
returns-in_err-x c = record {
  answer = handed_on _ _ c.from_residual.ensures.1 ∙ search (turn_cases, c.in_err-x.was);
  words = search (turn_cases, c.in_err-x.was);
  bytes = search (turn_cases, c.in_err-x.was);
}

pub returns : goal.returns
returns c = record {
  answer = search (turn_cases, c.in_ok-x.was);
  words = search (turn_cases, c.in_ok-x.was);
  bytes = search (turn_cases, c.in_ok-x.was);
}
