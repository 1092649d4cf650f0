-- The record's own mark or word.
use Rattle.records.specs.Records.{commit_sent}
use Rattle.records.proofs.commit_sent.Goals as goal

pub returns : goal.returns
unfolding commit_sent
returns c = cc
