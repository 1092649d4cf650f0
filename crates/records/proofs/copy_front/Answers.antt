use Rattle.records.specs.laws.Copy.{copying}
use Rattle.records.proofs.copy_front.Goals as goal

pub loop-k-init : goal.loop-k-init
loop-k-init c = search copying

pub bounds-out-k : goal.bounds-out-k
bounds-out-k c = search copying

pub loop-k-preserved : goal.loop-k-preserved
loop-k-preserved c = search copying

pub returns : goal.returns
returns c = search copying
