use Rattle.drill_feeder.specs.laws.Steps.{stepping}
use Rattle.drill_core.specs.Preparing.{opened_all}
use Rattle.drill_core.proofs.preparing.open_all.Goals as goal

pub loop-k-init : goal.loop-k-init
loop-k-init c = search stepping

pub loop-k-preserved : goal.loop-k-preserved
loop-k-preserved c = search stepping

pub returns : goal.returns
unfolding opened_all
returns c = search stepping
