-- After k steps concentrators 1 to k had their turns.
use Rattle.drill_feeder.specs.laws.Steps.{Stepping}
use Rattle.drill_feeder.specs.Lines.{memory, sweep_if}
use Rattle.drill_feeder.proofs.turns.sweep_all.Given as goal

abbrev pub invariant-loop-k : goal.invariant-loop-k
invariant-loop-k l = Stepping (sweep_if 401 l.g.honest) l.g.n (memory l.initial.words l.initial.store l.initial.c) (memory l.words l.store l.c) l.k
