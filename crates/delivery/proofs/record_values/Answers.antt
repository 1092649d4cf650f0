use Rattle.records.specs.laws.Fill.{storing}
use Rattle.delivery.proofs.record_values.Goals as goal

pub loop-j-init : goal.loop-j-init
loop-j-init c = search storing

pub loop-j-preserved : goal.loop-j-preserved
loop-j-preserved c = search storing

pub shape_of-s : goal.shape_of-s
shape_of-s c = search storing

pub returns : goal.returns
returns c = search storing
