-- The mark of the other bit.
use Rattle.recording.specs.laws.Cases.{other_bit}
use Rattle.recording.proofs.other_mark.Goals as goal

pub returns : goal.returns
returns c = search other_bit
