-- No state, or the room in its session.
use Rattle.report.specs.laws.Cases.{admit_cases}
use Rattle.report.proofs.admit.Goals as goal

pub returns-then-s-ne-STATE_WORDS : goal.returns-then-s-ne-STATE_WORDS
returns-then-s-ne-STATE_WORDS c = search admit_cases

pub returns-in_default : goal.returns-in_default
returns-in_default c = search admit_cases

pub returns : goal.returns
returns c = search admit_cases
