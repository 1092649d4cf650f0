-- The opening is accepted, or leaves the words.
use Rattle.restore.specs.laws.Given.{open_cases}
use Rattle.restore.proofs.first.open_with.Goals as goal

pub returns : goal.returns
returns c = rw c.is_ok.ensures.value (search open_cases)
