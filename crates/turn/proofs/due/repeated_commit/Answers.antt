-- No set, or the first values of the row of its lowest holder.
use Rattle.turn.specs.laws.Choosing.{repeat_cases}
use Rattle.turn.proofs.due.repeated_commit.Goals as goal

pub returns-then-p-eq0 : goal.returns-then-p-eq0
returns-then-p-eq0 c = search repeat_cases

pub copy_commit-count-requires : goal.copy_commit-count-requires
copy_commit-count-requires c = search repeat_cases

pub returns : goal.returns
returns c = search repeat_cases
