-- After j turns the first j are copied.
use lib.ListN.{length}
use Rattle.restore.specs.laws.Opened.{Copying}
use Rattle.restore.proofs.first.copy_coins.Given as goal

abbrev pub invariant-loop-j : goal.invariant-loop-j
invariant-loop-j l = Copying l.values 7 l.n (length l.initial.coins) l.j l.coins
