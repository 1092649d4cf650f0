-- The last number, or none.
use Rattle.restore.specs.laws.Opened.{boxed_cases}
use Rattle.restore.proofs.first.read_boxed.Goals as goal

pub returns-then-place-count : goal.returns-then-place-count
returns-then-place-count c = search boxed_cases

pub returns : goal.returns
returns c = search boxed_cases
