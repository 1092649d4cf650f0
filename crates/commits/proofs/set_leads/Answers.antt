-- A held set is counted.
use Rattle.commits.specs.laws.Cases.{commit_cases}
use Rattle.commits.proofs.set_leads.Goals as goal

pub returns-then-commit_held : goal.returns-then-commit_held
returns-then-commit_held c = search commit_cases

pub returns-else-commit_held : goal.returns-else-commit_held
returns-else-commit_held c = rw c.if-commit_held.false (search commit_cases)
