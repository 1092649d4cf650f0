-- A line in the middle cannot be applied, or the last one tells.
use Rattle.settings.specs.laws.Answers.{handed_on}
use Rattle.restore.specs.laws.Replaying.{place_cases}
use borrow.Author.Rules.{rules}
use Rattle.restore.proofs.replay.rest.Goals as goal

pub returns-in_err-last : goal.returns-in_err-last
returns-in_err-last c = rw (handed_on _ _ c.from_residual.ensures.1) (search (place_cases, c.in_err-last.was))

pub last_line-requires : goal.last_line-requires
last_line-requires c = (search (place_cases, c.in_ok-last.was), search (place_cases, c.in_ok-last.was), search rules)

pub returns : goal.returns
returns c = search (place_cases, c.in_ok-last.was)
