-- The verdict, then the record where it is accepted.
use Rattle.std.proofs.Common.{◌∙◌}
use Rattle.settings.specs.laws.Answers.{handed_on}
use Rattle.delivery.specs.laws.Accepting.{deliver_cases}
use Rattle.delivery.proofs.deliver.Goals as goal

pub returns-in_err-m : goal.returns-in_err-m
returns-in_err-m c = record {
  answer = handed_on _ _ c.from_residual.ensures.1 ∙ search (deliver_cases, c.in_err-m.was);
  words = search (deliver_cases, c.in_err-m.was);
}

pub overflow_cast-link : goal.overflow_cast-link
overflow_cast-link c = search (deliver_cases, c.in_ok-m.was)

pub slice_bounds-record-count : goal.slice_bounds-record-count
slice_bounds-record-count c = search (deliver_cases, c.in_ok-m.was)

pub slice_bounds-record-start : goal.slice_bounds-record-start
slice_bounds-record-start c = search (deliver_cases, c.in_ok-m.was)

pub record-requires : goal.record-requires
record-requires c = search (deliver_cases, c.in_ok-m.was)

pub returns : goal.returns
returns c = record {
  answer = search (deliver_cases, c.in_ok-m.was);
  words = search (deliver_cases, c.in_ok-m.was);
}
