-- The record's own mark or word.
use Rattle.records.specs.Records.{send_value}
use Rattle.records.proofs.send_value.Goals as goal

pub returns : goal.returns
unfolding send_value
returns c = cc
