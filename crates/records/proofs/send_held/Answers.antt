-- The record's own mark or word.
use Rattle.records.specs.Records.{send_held}
use Rattle.records.proofs.send_held.Goals as goal

pub returns : goal.returns
unfolding send_held
returns c = cc
