-- The record's own mark or word.
use Rattle.records.specs.Records.{ready_held}
use Rattle.records.proofs.ready_held.Goals as goal

pub returns : goal.returns
unfolding ready_held
returns c = cc
