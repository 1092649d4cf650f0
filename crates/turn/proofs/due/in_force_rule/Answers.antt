-- A set that senders of weight W − ts hold, or none.
use Rattle.turn.specs.laws.Choosing.{in_force_cases}
use Rattle.turn.proofs.due.in_force_rule.Goals as goal

pub returns-then-set_leader-eq0 : goal.returns-then-set_leader-eq0
returns-then-set_leader-eq0 c = search in_force_cases

pub returns : goal.returns
returns c = search in_force_cases
