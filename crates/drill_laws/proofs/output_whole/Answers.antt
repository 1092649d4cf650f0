-- `drill_laws::output_whole` states a theorem of specs/OutputLength.antt.
use Rattle.drill_laws.proofs.laws.OutputLength.{output_whole}
use Rattle.drill_laws.proofs.output_whole.Goals as goal

pub returns : goal.returns
returns c = output_whole
