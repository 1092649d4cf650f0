-- After k steps the lines of 1 to k are printed.
use Rattle.drill_core.specs.laws.OutputCases.{Printing}
use Rattle.drill_core.proofs.results.put_all.Given as goal

abbrev pub invariant-loop-k : goal.invariant-loop-k
invariant-loop-k l = Printing l.g.honest l.g.n l.words l.initial.out l.k l.at l.out
