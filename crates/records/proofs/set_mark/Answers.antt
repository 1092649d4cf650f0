-- The word with its mark is put back.
use Rattle.records.specs.Words.{set_mark}
use Rattle.records.proofs.set_mark.Goals as goal

pub returns : goal.returns
unfolding set_mark
returns c = cc
