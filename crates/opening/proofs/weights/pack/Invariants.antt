-- After p steps weights 1 to p are put in.
use Rattle.opening.specs.Given.{item}
use Rattle.opening.specs.laws.GivenCases.{Packing}
use Rattle.opening.proofs.weights.pack.Given as goal

abbrev pub invariant-loop-k : goal.invariant-loop-k
invariant-loop-k l = Packing (λ q. item l.weights q) l.n l.k l.w
