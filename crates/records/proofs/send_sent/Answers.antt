-- The record's own mark or word.
use Rattle.records.specs.Records.{send_sent}
use Rattle.records.proofs.send_sent.Goals as goal

pub returns : goal.returns
unfolding send_sent
returns c = cc
