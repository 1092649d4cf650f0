-- Two fields follow the letter.
use Rattle.restore.specs.laws.Applying.{delivery_cases}
use Rattle.restore.proofs.lines.deliver_line.Goals as goal

pub returns-then-e-line : goal.returns-then-e-line
returns-then-e-line c = search delivery_cases

pub returns-then-g-line : goal.returns-then-g-line
returns-then-g-line c = search delivery_cases

pub returns : goal.returns
returns c = search delivery_cases
