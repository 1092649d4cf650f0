-- The lines, then the count.
use Rattle.drill_core.specs.laws.OutputCases.{summary_printed}
use Rattle.drill_core.proofs.results.put_summary.Goals as goal

pub returns : goal.returns
returns c = search summary_printed
