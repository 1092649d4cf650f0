use Rattle.text.specs.laws.Each.{each}
use Rattle.drill_lines.proofs.printing.put_comma_values.Goals as goal

pub loop-value-init : goal.loop-value-init
loop-value-init c = search each

pub loop-value-preserved : goal.loop-value-preserved
loop-value-preserved c = search each
