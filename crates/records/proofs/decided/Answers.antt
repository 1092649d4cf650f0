-- The record's own mark or word.
use Rattle.records.specs.Records.{decided, decided_zero, decided_one}
use Rattle.records.proofs.decided.Goals as goal

pub returns : goal.returns
unfolding decided decided_zero decided_one
returns c = cc
