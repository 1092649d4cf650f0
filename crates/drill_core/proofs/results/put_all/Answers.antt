use Rattle.drill_core.specs.laws.OutputCases.{printing}
use Rattle.drill_core.proofs.results.put_all.Goals as goal

pub loop-k-init : goal.loop-k-init
loop-k-init c = search printing

pub loop-k-preserved : goal.loop-k-preserved
loop-k-preserved c = search printing
