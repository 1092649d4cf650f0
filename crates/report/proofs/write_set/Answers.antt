-- Nobody's set, or that of a COMMIT.
use Rattle.report.specs.laws.Cases.{set_none, set_done}
use Rattle.report.proofs.write_set.Goals as goal

pub returns-then-p-eq0 : goal.returns-then-p-eq0
returns-then-p-eq0 c = search set_none

pub returns : goal.returns
returns c = search set_done
