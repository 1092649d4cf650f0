-- The first LF from the place on ends the line, and without one the line is not complete.
use Rattle.restore.specs.laws.Places.{line_cases}
use Rattle.restore.proofs.reader.end_of_line.Goals as goal

pub returns-then-e-src : goal.returns-then-e-src
returns-then-e-src c = search line_cases

pub returns : goal.returns
returns c = search line_cases
