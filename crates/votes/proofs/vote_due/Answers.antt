-- `vote_due` takes the FINISH before the steps of the vote, and none after both.
use Rattle.votes.specs.laws.Cases.{dues}
use Rattle.votes.proofs.vote_due.Goals as goal

pub returns-then-is_due : goal.returns-then-is_due
returns-then-is_due c = search dues

pub returns-then-over : goal.returns-then-over
returns-then-over c = search dues

pub returns : goal.returns
returns c = search dues
