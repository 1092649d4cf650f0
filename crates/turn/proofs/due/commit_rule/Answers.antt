-- None if one was sent, the set the exits name, or one that is repeated.
use Rattle.turn.specs.laws.Choosing.{commit_cases}
use Rattle.turn.proofs.due.commit_rule.Goals as goal

pub returns-then-commit_sent : goal.returns-then-commit_sent
returns-then-commit_sent c = search commit_cases

pub returns-then-count-eq0 : goal.returns-then-count-eq0
returns-then-count-eq0 c = search commit_cases

pub returns : goal.returns
returns c = search commit_cases
