-- The report, lent 16 words for each set.
use Rattle.records.specs.Words.{blank}
use Rattle.drill_core.specs.laws.OutputCases.{session_printed}
use Rattle.drill_core.proofs.results.put_session.Goals as goal

pub returns : goal.returns
unfolding blank
returns c = search session_printed
