use Rattle.text.specs.laws.Each.{each}
use Rattle.journal.proofs.lines.put_coins.Goals as goal

pub loop-coin-init : goal.loop-coin-init
loop-coin-init c = search each

pub loop-coin-preserved : goal.loop-coin-preserved
loop-coin-preserved c = search each

pub shape_of-out : goal.shape_of-out
shape_of-out c = search each

pub returns : goal.returns
returns c = search each
