-- The record's own mark or word.
use Rattle.records.specs.Records.{decided_one}
use Rattle.records.proofs.decided_one.Goals as goal

pub returns : goal.returns
unfolding decided_one
returns c = cc
