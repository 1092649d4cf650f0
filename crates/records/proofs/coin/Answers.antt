-- The record's own mark or word.
use Rattle.records.specs.Records.{coin}
use Rattle.records.proofs.coin.Goals as goal

pub returns : goal.returns
unfolding coin
returns c = cc
