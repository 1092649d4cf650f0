-- The lines are applied, and the copy becomes the state, or one is not, and it stays.
use Rattle.restore.specs.laws.Restored.{onto_cases}
use Rattle.settings.specs.laws.Answers.{handed_on}
use Rattle.restore.proofs.restore_onto.Goals as goal

pub returns-in_err-restored : goal.returns-in_err-restored
returns-in_err-restored c = rw (handed_on _ _ c.from_residual.ensures.1) (search (onto_cases, c.in_err-restored.was))

pub returns : goal.returns
returns c = search (onto_cases, c.in_ok-restored.was)
