use mathlib.Core.Path.{refl}
use Rattle.broadcasts.specs.laws.Storing.{outputs_start, storing}
use Rattle.broadcasts.proofs.OutputTable.of.Goals as goal

pub loop-k-init : goal.loop-k-init
loop-k-init c = outputs_start _ _ _ refl

pub loop-k-preserved : goal.loop-k-preserved
loop-k-preserved c = search storing

pub returns : goal.returns
returns c = search storing
