-- A refusal is known before anything is written; an accepted delivery writes its line.
use Rattle.std.proofs.Common.{◌∙◌}
use Rattle.journal.specs.laws.Cases.{deliver_cases}
use Rattle.journal.proofs.deliver.Goals as goal
use Rattle.settings.specs.laws.Answers.{handed_on}

pub returns-in_err-judge : goal.returns-in_err-judge
returns-in_err-judge c = record {
  answer = handed_on _ _ c.from_residual.ensures.1 ∙ search (deliver_cases, c.in_err-judge.was);
  words = search deliver_cases;
  bytes = search deliver_cases;
}

pub returns-then-line-lt-LINE_BYTES : goal.returns-then-line-lt-LINE_BYTES
returns-then-line-lt-LINE_BYTES c = record {
  answer = search (deliver_cases, c.in_ok-judge.was);
  words = search deliver_cases;
  bytes = search deliver_cases;
}

pub returns-in_err-deliver : goal.returns-in_err-deliver
returns-in_err-deliver c = record {
  answer = handed_on _ _ c.from_residual-in_err-deliver.ensures.1 ∙ search (deliver_cases, c.in_err-deliver.was);
  words = search deliver_cases;
  bytes = search (deliver_cases, c.in_err-deliver.was);
}

pub returns : goal.returns
returns c = record {
  answer = search (deliver_cases, c.in_ok-deliver.was);
  words = search deliver_cases;
  bytes = search (deliver_cases, c.in_ok-deliver.was);
}
