-- Each path of `finish_act` is a case of its definition.
use Rattle.votes.specs.laws.Cases.{finishes}
use Rattle.votes.proofs.finish.finish_act.Goals as goal

pub returns-then-finish_sent : goal.returns-then-finish_sent
returns-then-finish_sent c = search finishes

pub returns : goal.returns
returns c = search finishes
