-- The record's own mark or word.
use Rattle.records.specs.Records.{finish_sent}
use Rattle.records.proofs.finish_sent.Goals as goal

pub returns : goal.returns
unfolding finish_sent
returns c = cc
