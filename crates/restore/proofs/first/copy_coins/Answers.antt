use Rattle.restore.specs.laws.Opened.{copying}
use Rattle.restore.proofs.first.copy_coins.Goals as goal

pub loop-j-init : goal.loop-j-init
loop-j-init c = search copying

pub overflow_cast-coins : goal.overflow_cast-coins
overflow_cast-coins c = search copying

pub loop-j-preserved : goal.loop-j-preserved
loop-j-preserved c = search copying

pub returns : goal.returns
returns c = search copying
