-- The group of marks in the round's word.
use Rattle.records.specs.laws.MarkWords.{groups}
use Rattle.records.proofs.est_held.Goals as goal

pub returns : goal.returns
returns c = search groups
