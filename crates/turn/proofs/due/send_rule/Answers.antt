-- Once.
use Rattle.turn.specs.laws.Choosing.{send_cases}
use Rattle.turn.proofs.due.send_rule.Goals as goal

pub returns-then-send_sent : goal.returns-then-send_sent
returns-then-send_sent c = search send_cases

pub returns : goal.returns
returns c = search send_cases
