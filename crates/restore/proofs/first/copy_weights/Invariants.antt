-- After j turns the first j are copied, and each is a byte.
use lib.ListN.{length}
use Rattle.restore.specs.laws.Opened.{Copying}
use Rattle.restore.proofs.first.copy_weights.Given as goal

abbrev pub invariant-loop-j : goal.invariant-loop-j
invariant-loop-j l = Copying l.values l.base l.n (length l.initial.weights) l.j l.weights
