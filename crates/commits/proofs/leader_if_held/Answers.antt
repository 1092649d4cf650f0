-- Where too few COMMITs are held no set leads.
use Rattle.commits.specs.laws.Cases.{commit_cases}
use Rattle.commits.proofs.leader_if_held.Goals as goal

pub returns-then-commits_held-k : goal.returns-then-commits_held-k
returns-then-commits_held-k c = search commit_cases
