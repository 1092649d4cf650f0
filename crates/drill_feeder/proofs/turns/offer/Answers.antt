use Rattle.drill_feeder.specs.laws.Steps.{stepping}
use Rattle.drill_feeder.specs.Lines.{offer}
use Rattle.drill_feeder.proofs.turns.offer.Goals as goal

pub loop-j-init : goal.loop-j-init
loop-j-init c = search stepping

pub loop-j-preserved : goal.loop-j-preserved
loop-j-preserved c = search stepping

pub returns : goal.returns
unfolding offer
returns c = search stepping
