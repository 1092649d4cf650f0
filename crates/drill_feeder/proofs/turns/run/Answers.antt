use Rattle.drill_feeder.specs.laws.RunCases.{running}
use Rattle.drill_feeder.proofs.turns.run.Goals as goal

pub returns-then-c : goal.returns-then-c
returns-then-c c = search running

pub loop-preserved : goal.loop-preserved
loop-preserved c = search running

pub returns : goal.returns
returns c = search running
