-- Each path of `finish_value` is a case of its definition.
use Rattle.votes.specs.laws.Cases.{finishes}
use Rattle.votes.proofs.finish.finish_value.Goals as goal

pub returns-then-decided_one : goal.returns-then-decided_one
returns-then-decided_one c = search finishes

pub returns-then-decided_zero : goal.returns-then-decided_zero
returns-then-decided_zero c = search finishes

pub returns : goal.returns
returns c = search finishes
