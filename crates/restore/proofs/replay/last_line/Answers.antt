-- What the line comes to is the whole.
use Rattle.restore.specs.laws.Replaying.{taken_cases}
use Rattle.restore.proofs.replay.last_line.Goals as goal

pub returns-in-None : goal.returns-in-None
returns-in-None c = search taken_cases

pub returns-in-Some : goal.returns-in-Some
returns-in-Some c = search taken_cases
