-- The refusal, or the words.
use Rattle.std.proofs.Common.{◌∙◌}
use Rattle.settings.specs.laws.Answers.{handed_on}
use Rattle.opening.specs.laws.Cases.{open_cases, accepted_few}
use Rattle.opening.proofs.open.Goals as goal

pub returns-in_err-answer_with : goal.returns-in_err-answer_with
returns-in_err-answer_with c = record {
  answer = handed_on _ _ c.from_residual.ensures.1 ∙ search (open_cases, c.in_err-answer_with.was);
  words = search (open_cases, c.in_err-answer_with.was);
}

pub overflow_cast-number : goal.overflow_cast-number
overflow_cast-number c = accepted_few _ _ _ _ c.answer_with.ensures c.in_ok-answer_with.was

pub returns : goal.returns
returns c = record {
  answer = search (open_cases, c.in_ok-answer_with.was);
  words = search (open_cases, c.in_ok-answer_with.was);
}
