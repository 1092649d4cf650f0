-- READY, or the votes unless Exit 1 holds.
use Rattle.turn.specs.laws.Choosing.{last_cases}
use Rattle.turn.proofs.due.last_rules.Goals as goal

pub returns-then-is_due : goal.returns-then-is_due
returns-then-is_due c = search last_cases

pub returns-then-first : goal.returns-then-first
returns-then-first c = search last_cases

pub returns : goal.returns
returns c = search last_cases
