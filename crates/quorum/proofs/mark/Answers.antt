-- `mark` tests digit p − 1; outside 1 to 64 no mark is set.
use Rattle.quorum.specs.laws.Marks.{mark_cases}
use Rattle.quorum.proofs.mark.Goals as goal

pub returns-then-p-lt1 : goal.returns-then-p-lt1
returns-then-p-lt1 c = search mark_cases

pub returns-then-p-gt64 : goal.returns-then-p-gt64
returns-then-p-gt64 c = search mark_cases

pub returns : goal.returns
returns c = search mark_cases
