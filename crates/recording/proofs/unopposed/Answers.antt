-- The mark of the other bit.
use Rattle.recording.specs.laws.Cases.{other_unmarked}
use Rattle.recording.proofs.unopposed.Goals as goal

pub returns : goal.returns
returns c = search other_unmarked
