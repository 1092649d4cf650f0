-- The mark of the bit.
use Rattle.recording.specs.Recording.{with_bit}
use Rattle.recording.proofs.put_bit.Goals as goal

pub returns : goal.returns
unfolding with_bit
returns c = cc
