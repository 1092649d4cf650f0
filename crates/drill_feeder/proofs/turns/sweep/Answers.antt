use Rattle.drill_feeder.specs.laws.RunCases.{sweeping}
use Rattle.drill_feeder.proofs.turns.sweep.Goals as goal

pub returns-then-not-take_turn : goal.returns-then-not-take_turn
returns-then-not-take_turn c = search sweeping

pub loop-preserved : goal.loop-preserved
loop-preserved c = search sweeping

pub returns : goal.returns
returns c = search sweeping
