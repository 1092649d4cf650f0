-- Three numbers, or the line cannot be applied.
use Rattle.restore.specs.laws.Recorded.{numbers_cases}
use Rattle.restore.proofs.lines.record_numbers.Goals as goal

pub returns-then-count-ne3 : goal.returns-then-count-ne3
returns-then-count-ne3 c = search numbers_cases

pub returns : goal.returns
returns c = rw c.is_ok.ensures.value (search numbers_cases)
