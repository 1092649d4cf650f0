-- After q steps no sender of 1 to q leads.
use Rattle.settings.specs.laws.Counting.{counting}
use Rattle.quorum.specs.laws.Lowest.{Passed}
use Rattle.commits.specs.Commits.{set_leads}
use Rattle.commits.proofs.leader_of.Given as goal

abbrev pub invariant-loop-q : goal.invariant-loop-q
invariant-loop-q l = Passed (λ p. set_leads (counting l.n l.weights) l.s l.k p) l.n l.q
