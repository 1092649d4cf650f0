-- The tests.
use Rattle.recording.specs.Recording.{in_layout}
use Rattle.recording.proofs.in_layout.Goals as goal

pub returns : goal.returns
unfolding in_layout
returns c = cc
