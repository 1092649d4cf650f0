-- The record's own mark or word.
use Rattle.records.specs.Records.{ready_sent}
use Rattle.records.proofs.ready_sent.Goals as goal

pub returns : goal.returns
unfolding ready_sent
returns c = cc
