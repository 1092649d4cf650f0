use Rattle.wire.proofs.Laws.{rising_laws}
use Rattle.wire.proofs.reading.rising.Goals as goal

pub loop-k-init : goal.loop-k-init
loop-k-init c = search rising_laws

pub returns-then-next-last : goal.returns-then-next-last
returns-then-next-last c = search rising_laws

pub loop-k-preserved : goal.loop-k-preserved
loop-k-preserved c = search rising_laws

pub returns : goal.returns
returns c = search rising_laws
