-- Refused, or the figures.
use Rattle.cabi.specs.laws.Cases.{report_cases}
use Rattle.cabi.proofs.pack_report.Goals as goal

pub figures_number-requires : goal.figures_number-requires
figures_number-requires c = search report_cases

pub returns-in-Err : goal.returns-in-Err
returns-in-Err c = search report_cases

pub returns-in-Ok : goal.returns-in-Ok
returns-in-Ok c = search report_cases
