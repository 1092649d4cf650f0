-- `drill_laws::parts_joined` states a theorem of drill_core.
use Rattle.drill_core.specs.laws.Parts.{output_parts}
use Rattle.drill_laws.proofs.parts_joined.Goals as goal

pub returns : goal.returns
returns c = output_parts
