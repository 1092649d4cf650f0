-- The group of marks in the vote's word of FINISHes.
use Rattle.records.specs.laws.MarkWords.{groups}
use Rattle.records.proofs.finish_weight.Goals as goal

pub returns : goal.returns
returns c = search groups
