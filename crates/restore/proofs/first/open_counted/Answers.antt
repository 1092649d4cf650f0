-- With weights or without, or the line cannot be applied.
use Rattle.restore.specs.laws.First.{count_cases}
use Rattle.restore.proofs.first.open_counted.Goals as goal

pub returns-then-not-count_right : goal.returns-then-not-count_right
returns-then-not-count_right c = search count_cases

pub open_values-requires : goal.open_values-requires
open_values-requires c = search count_cases

pub returns : goal.returns
returns c = search count_cases
