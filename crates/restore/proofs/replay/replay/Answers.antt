-- There is a first line, and it can be applied.
use Rattle.restore.specs.laws.Replaying.{begun_cases}
use borrow.Author.Rules.{rules}
use Rattle.restore.proofs.replay.replay.Goals as goal

pub returns-then-first-eq0 : goal.returns-then-first-eq0
returns-then-first-eq0 c = search begun_cases

pub slice_bounds-open_line-end : goal.slice_bounds-open_line-end
slice_bounds-open_line-end c = search begun_cases

pub returns-then-not-open_line : goal.returns-then-not-open_line
returns-then-not-open_line c = search begun_cases

pub further-requires : goal.further-requires
further-requires c = (search begun_cases, search rules)
