-- A refusal is known before anything is written; an accepted opening writes its line.
use Rattle.std.proofs.Common.{◌∙◌}
use Rattle.journal.specs.laws.Cases.{open_cases}
use Rattle.journal.proofs.open.Goals as goal
use Rattle.settings.specs.laws.Answers.{handed_on}

pub returns-in_err-answer : goal.returns-in_err-answer
returns-in_err-answer c = record {
  answer = handed_on _ _ c.from_residual.ensures.1 ∙ search (open_cases, c.in_err-answer.was);
  words = search open_cases;
  bytes = search open_cases;
}

pub returns-then-line-lt-LINE_BYTES : goal.returns-then-line-lt-LINE_BYTES
returns-then-line-lt-LINE_BYTES c = record {
  answer = search (open_cases, c.in_ok-answer.was);
  words = search open_cases;
  bytes = search open_cases;
}

pub returns-in_err-open : goal.returns-in_err-open
returns-in_err-open c = record {
  answer = handed_on _ _ c.from_residual-in_err-open.ensures.1 ∙ search (open_cases, c.in_err-open.was);
  words = search open_cases;
  bytes = search (open_cases, c.in_err-open.was);
}

pub returns : goal.returns
returns c = record {
  answer = search (open_cases, c.in_ok-open.was);
  words = search open_cases;
  bytes = search (open_cases, c.in_ok-open.was);
}
