-- The record's own mark or word.
use Rattle.records.specs.Records.{one_first}
use Rattle.records.proofs.one_first.Goals as goal

pub returns : goal.returns
unfolding one_first
returns c = cc
