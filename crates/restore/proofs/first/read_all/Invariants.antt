-- After k fields the line is what they are, and the fields that are left.
use lib.ListN.{length}
use Rattle.restore.specs.laws.Filling.{Filling}
use Rattle.restore.proofs.first.read_all.Given as goal

abbrev pub invariant-loop-k : goal.invariant-loop-k
invariant-loop-k l = Filling l.n l.line l.start (length l.initial.values) l.at l.k l.values
