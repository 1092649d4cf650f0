-- A refusal is known before anything is written; an accepted recording writes its line.
use Rattle.std.proofs.Common.{◌∙◌}
use Rattle.journal.specs.laws.Cases.{record_cases}
use Rattle.journal.proofs.record.Goals as goal
use Rattle.settings.specs.laws.Answers.{handed_on}

pub returns-in_err-answer : goal.returns-in_err-answer
returns-in_err-answer c = record {
  answer = handed_on _ _ c.from_residual.ensures.1 ∙ search (record_cases, c.in_err-answer.was);
  words = search record_cases;
  bytes = search record_cases;
}

pub returns-then-line-lt-LINE_BYTES : goal.returns-then-line-lt-LINE_BYTES
returns-then-line-lt-LINE_BYTES c = record {
  answer = search (record_cases, c.in_ok-answer.was);
  words = search record_cases;
  bytes = search record_cases;
}

pub returns-in_err-record : goal.returns-in_err-record
returns-in_err-record c = record {
  answer = handed_on _ _ c.from_residual-in_err-record.ensures.1 ∙ search (record_cases, c.in_err-record.was);
  words = search record_cases;
  bytes = search (record_cases, c.in_err-record.was);
}

pub returns : goal.returns
returns c = record {
  answer = search (record_cases, c.in_ok-record.was);
  words = search record_cases;
  bytes = search (record_cases, c.in_ok-record.was);
}
