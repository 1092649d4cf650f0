-- The record's own mark or word.
use Rattle.records.specs.Records.{aux_sent}
use Rattle.records.proofs.aux_sent.Goals as goal

pub returns : goal.returns
unfolding aux_sent
returns c = cc
