-- `finish_repeated` takes 0 where it is repeated, else 1.
use Rattle.votes.specs.laws.Cases.{finishes}
use Rattle.votes.proofs.finish.finish_repeated.Goals as goal

pub returns-then-repeated : goal.returns-then-repeated
returns-then-repeated c = search finishes

pub returns-then-repeated-2 : goal.returns-then-repeated-2
returns-then-repeated-2 c = search finishes

pub returns : goal.returns
returns c = search finishes
