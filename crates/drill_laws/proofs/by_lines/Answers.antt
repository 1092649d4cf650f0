-- `drill_laws::by_lines` states a theorem of specs/ByLines.antt.
use Rattle.drill_laws.proofs.laws.ByLines.{by_lines}
use Rattle.drill_laws.proofs.by_lines.Goals as goal

pub returns : goal.returns
returns c = by_lines
