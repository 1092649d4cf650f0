-- Short, or not.
use Rattle.report.specs.laws.Cases.{admit_cases}
use Rattle.report.proofs.admit_in.Goals as goal

pub returns-then-named-in_force : goal.returns-then-named-in_force
returns-then-named-in_force c = search admit_cases

pub returns : goal.returns
returns c = search admit_cases
