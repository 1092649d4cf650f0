-- The first line is the only one, or others follow.
use Rattle.restore.specs.laws.Replaying.{begun_cases}
use Rattle.restore.proofs.replay.further.Goals as goal

pub returns : goal.returns
returns c = search begun_cases
