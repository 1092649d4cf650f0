-- The record's own mark or word.
use Rattle.records.specs.Records.{commit_value}
use Rattle.records.proofs.commit_value.Goals as goal

pub returns : goal.returns
unfolding commit_value
returns c = cc
