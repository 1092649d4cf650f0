use Rattle.delivery_csv.specs.laws.LineScan.{putting}
use Rattle.delivery_csv.proofs.lines.write.Goals as goal

pub loop-k-init : goal.loop-k-init
loop-k-init c = search putting

pub loop-k-preserved : goal.loop-k-preserved
loop-k-preserved c = search putting

pub shape_of-out : goal.shape_of-out
shape_of-out c = search putting

pub returns : goal.returns
returns c = search putting
