-- No state, closed, too short, or open.
use Rattle.turn.specs.laws.Taking.{admit_cases}
use Rattle.turn.proofs.admit.Goals as goal

pub returns-then-s-ne-STATE_WORDS : goal.returns-then-s-ne-STATE_WORDS
returns-then-s-ne-STATE_WORDS c = search admit_cases

pub returns-in_default : goal.returns-in_default
returns-in_default c = search admit_cases

pub returns-then-closed : goal.returns-then-closed
returns-then-closed c = search admit_cases

pub returns-then-room-lt-MESSAGE_BYTES : goal.returns-then-room-lt-MESSAGE_BYTES
returns-then-room-lt-MESSAGE_BYTES c = search admit_cases

pub returns : goal.returns
returns c = search admit_cases
