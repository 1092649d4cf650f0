-- The record's own mark or word.
use Rattle.records.specs.Records.{est_sent}
use Rattle.records.proofs.est_sent.Goals as goal

pub returns : goal.returns
unfolding est_sent
returns c = cc
