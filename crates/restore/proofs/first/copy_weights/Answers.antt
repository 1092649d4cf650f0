use Rattle.restore.specs.laws.Opened.{weighing}
use Rattle.restore.proofs.first.copy_weights.Goals as goal

pub loop-j-init : goal.loop-j-init
loop-j-init c = search weighing

pub returns-then-w-gt255 : goal.returns-then-w-gt255
returns-then-w-gt255 c = search weighing

pub loop-j-preserved : goal.loop-j-preserved
loop-j-preserved c = search weighing

pub returns : goal.returns
returns c = search weighing
