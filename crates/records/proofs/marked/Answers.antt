-- The mark of the word that was read.
use Rattle.records.specs.Words.{marked}
use Rattle.records.proofs.marked.Goals as goal

pub returns : goal.returns
unfolding marked
returns c = cc
