-- The record's own mark or word.
use Rattle.records.specs.Records.{echo_held}
use Rattle.records.proofs.echo_held.Goals as goal

pub returns : goal.returns
unfolding echo_held
returns c = cc
