-- What is applied is applied, and its message goes nowhere.
use Rattle.restore.specs.laws.Replaying.{taken_cases}
use Rattle.restore.proofs.replay.middle_line.Goals as goal

pub returns : goal.returns
returns c = rw c.is_some.ensures (search taken_cases)
