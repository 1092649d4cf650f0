-- One case for each answer.
use Rattle.calendar.specs.laws.Search.{distances}
use Rattle.calendar.proofs.distance.Goals as goal

pub returns-then-from-first : goal.returns-then-from-first
returns-then-from-first c = search distances

pub returns-then-from-end : goal.returns-then-from-end
returns-then-from-end c = search distances

pub returns : goal.returns
returns c = search distances
