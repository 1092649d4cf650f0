-- The record's own mark or word.
use Rattle.records.specs.Records.{decided_zero}
use Rattle.records.proofs.decided_zero.Goals as goal

pub returns : goal.returns
unfolding decided_zero
returns c = cc
