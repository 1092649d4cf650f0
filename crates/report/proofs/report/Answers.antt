-- Refused, or both sets and the figures.
use Rattle.std.proofs.Common.{◌∙◌}
use Rattle.report.specs.laws.Cases.{given_named_room, given_in_force_room, report_cases}
use Rattle.report.proofs.report.Goals as goal
use Rattle.settings.specs.laws.Answers.{handed_on}

pub write_report-requires : goal.write_report-requires
write_report-requires c = (search (given_named_room, c.in_ok-g.was), search (given_in_force_room, c.in_ok-g.was))

pub returns-in_err-g : goal.returns-in_err-g
returns-in_err-g c = record {
  answer = handed_on _ _ c.from_residual.ensures.1 ∙ search (report_cases, c.in_err-g.was);
  named_words = search (report_cases, c.in_err-g.was);
  in_force_words = search (report_cases, c.in_err-g.was);
}

pub returns : goal.returns
returns c = record {
  answer = search (report_cases, c.in_ok-g.was);
  named_words = search (report_cases, c.in_ok-g.was);
  in_force_words = search (report_cases, c.in_ok-g.was);
}
