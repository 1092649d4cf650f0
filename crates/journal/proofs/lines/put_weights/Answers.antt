use Rattle.text.specs.laws.Each.{each}
use Rattle.journal.proofs.lines.put_weights.Goals as goal

pub loop-weight-init : goal.loop-weight-init
loop-weight-init c = search each

pub loop-weight-preserved : goal.loop-weight-preserved
loop-weight-preserved c = search each

pub shape_of-out : goal.shape_of-out
shape_of-out c = search each

pub returns : goal.returns
returns c = search each
