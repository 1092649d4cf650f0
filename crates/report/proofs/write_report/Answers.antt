-- The set of the exit, then the set in force.
use Rattle.report.specs.laws.Cases.{report_done}
use Rattle.report.proofs.write_report.Goals as goal

pub returns : goal.returns
returns c = search report_done
