-- The word is 0.
use Rattle.records.specs.Records.{printed}
use Rattle.records.proofs.printed.Goals as goal

pub returns : goal.returns
unfolding printed
returns c = cc
