-- `agreement_example::lost_line` states a theorem of specs/LineLost.antt.
use Rattle.agreement_example.proofs.laws.LineLost.{line_missed}
use Rattle.agreement_example.proofs.lost_line.Goals as goal

pub returns : goal.returns
returns c = line_missed
