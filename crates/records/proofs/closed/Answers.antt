-- The record's own mark or word.
use Rattle.records.specs.Records.{closed}
use Rattle.records.proofs.closed.Goals as goal

pub returns : goal.returns
unfolding closed
returns c = cc
