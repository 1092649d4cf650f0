-- The outputs of the broadcasts 1 to n, stored one after another.
use Rattle.broadcasts.specs.Outputs.{Outputs}
use Rattle.broadcasts.proofs.OutputTable.of.Given as goal

abbrev pub invariant-loop-k : goal.invariant-loop-k
invariant-loop-k l = Outputs l.g l.s l.k l.all.marks l.all.values
