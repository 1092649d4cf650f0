-- What came of it, by the callee's contract.
use Rattle.engine_calls.specs.laws.Report.{reports_by}
use Rattle.engine_calls.proofs.report.Goals as goal

pub returns : goal.returns
returns c = search reports_by
