-- The record's own mark or word.
use Rattle.records.specs.Records.{echo_sent}
use Rattle.records.proofs.echo_sent.Goals as goal

pub returns : goal.returns
unfolding echo_sent
returns c = cc
