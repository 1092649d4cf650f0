-- The rounds that are over of 1,601.
use Rattle.drill_feeder.specs.laws.RunCases.{Running}
use Rattle.drill_feeder.specs.Lines.{memory}
use Rattle.drill_feeder.proofs.turns.run.Given as goal

abbrev pub invariant-loop : goal.invariant-loop
invariant-loop l = Running l.g 1601 l.counter (memory l.initial.words l.initial.store l.initial.c) (memory l.words l.store l.c)
