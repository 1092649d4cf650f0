use Rattle.records.specs.laws.Fill.{storing}
use Rattle.opening.specs.laws.Cases.{open_cases}
use Rattle.opening.proofs.coins.put_coins.Goals as goal

pub loop-k-init : goal.loop-k-init
loop-k-init c = search storing

pub loop-k-preserved : goal.loop-k-preserved
loop-k-preserved c = search storing

pub shape_of-s : goal.shape_of-s
shape_of-s c = search storing

pub returns : goal.returns
returns c = search (open_cases, storing)
