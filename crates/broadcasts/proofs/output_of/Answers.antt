-- The output is the value that READYs of weight W − ts hold.
use Rattle.broadcasts.specs.Broadcasts.{output}
use Rattle.broadcasts.proofs.output_of.Goals as goal

pub returns : goal.returns
unfolding output
returns c = cc
