use Rattle.drill_feeder.specs.laws.Steps.{stepping}
use Rattle.drill_feeder.specs.Lines.{swept}
use Rattle.drill_feeder.proofs.turns.sweep_all.Goals as goal

pub loop-k-init : goal.loop-k-init
loop-k-init c = search stepping

pub loop-k-preserved : goal.loop-k-preserved
loop-k-preserved c = search stepping

pub returns : goal.returns
unfolding swept
returns c = search stepping
