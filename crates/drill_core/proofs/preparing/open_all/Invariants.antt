-- After k steps the honest ones of 1 to k are open.
use Rattle.drill_feeder.specs.laws.Steps.{Stepping}
use Rattle.drill_core.specs.Preparing.{open_if}
use Rattle.drill_core.proofs.preparing.open_all.Given as goal

abbrev pub invariant-loop-k : goal.invariant-loop-k
invariant-loop-k l = Stepping (open_if l.g) l.g.members.n l.initial.words l.words l.k
