-- The value of the lowest sender that leads.
use Prim.Native.Nat.{◌+◌}
use Rattle.settings.specs.laws.Counting.{counting}
use Rattle.quorum.specs.laws.Lowest.{Passed}
use Rattle.records.specs.Words.{word, marked}
use Rattle.broadcasts.specs.Leading.{leads}
use Rattle.broadcasts.proofs.leading_of.Given as goal

abbrev pub invariant-loop-k : goal.invariant-loop-k
invariant-loop-k l = Passed (leads (counting l.n l.weights) (λ k. marked l.s l.marks k) (λ k. word l.s (l.values + k)) l.q) l.n l.k
