-- After i steps coin words 1 to i are stored.
use Rattle.records.specs.laws.Fill.{Storing}
use Rattle.opening.specs.Given.{item}
use Rattle.opening.proofs.coins.put_coins.Given as goal

abbrev pub invariant-loop-k : goal.invariant-loop-k
invariant-loop-k l = Storing (λ j. item l.coins j) 7 l.n l.initial.s l.s l.k
