-- Session and weights are right, or the line cannot be applied.
use Rattle.restore.specs.laws.Given.{open_cases}
use Rattle.restore.proofs.first.open_values.Goals as goal

pub returns-then-values-gt4294967295 : goal.returns-then-values-gt4294967295
returns-then-values-gt4294967295 c = search open_cases

pub returns-then-not-read_weights : goal.returns-then-not-read_weights
returns-then-not-read_weights c = search open_cases

pub slice_bounds-open_with-end : goal.slice_bounds-open_with-end
slice_bounds-open_with-end c = search open_cases

pub slice_bounds-open_with-end-2 : goal.slice_bounds-open_with-end-2
slice_bounds-open_with-end-2 c = search open_cases

pub returns : goal.returns
returns c = search open_cases
