-- The messages up to k are delivered.
use Rattle.drill_feeder.specs.laws.RunCases.{Offering}
use Rattle.drill_feeder.proofs.turns.offer_all.Given as goal

abbrev pub invariant-loop-k : goal.invariant-loop-k
invariant-loop-k l = Offering l.g l.store l.initial.words l.c l.words l.k
