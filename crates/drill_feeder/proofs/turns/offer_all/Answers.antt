use Rattle.drill_feeder.specs.laws.RunCases.{offering}
use Rattle.drill_feeder.proofs.turns.offer_all.Goals as goal

pub loop-k-init : goal.loop-k-init
loop-k-init c = search offering

pub loop-k-preserved : goal.loop-k-preserved
loop-k-preserved c = search offering

pub returns : goal.returns
returns c = search offering
