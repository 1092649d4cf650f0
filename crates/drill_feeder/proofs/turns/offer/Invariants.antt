-- After j steps concentrators 1 to j had the message.
use Rattle.drill_feeder.specs.laws.Steps.{Stepping}
use Rattle.drill_feeder.specs.Lines.{offer_to}
use Rattle.drill_feeder.proofs.turns.offer.Given as goal

abbrev pub invariant-loop-j : goal.invariant-loop-j
invariant-loop-j l = Stepping (offer_to l.g.honest l.store l.k) l.g.n l.initial.words l.words l.j
