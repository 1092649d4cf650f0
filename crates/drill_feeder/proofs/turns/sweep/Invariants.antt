-- The turns that are taken of 401.
use Rattle.drill_feeder.specs.laws.RunCases.{Sweeping}
use Rattle.drill_feeder.specs.Lines.{memory}
use Rattle.drill_feeder.proofs.turns.sweep.Given as goal

abbrev pub invariant-loop : goal.invariant-loop
invariant-loop l = Sweeping l.p 401 l.counter (memory l.initial.words l.initial.store l.initial.c) (memory l.words l.store l.c)
