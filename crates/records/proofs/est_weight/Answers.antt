-- The group of marks in the round's word.
use Rattle.records.specs.laws.MarkWords.{groups}
use Rattle.records.proofs.est_weight.Goals as goal

pub returns : goal.returns
returns c = search groups
