-- `put_opening` writes one part after the other.
use Rattle.journal.specs.laws.Parts.{wrote_opening}
use Rattle.journal.proofs.lines.put_opening.Goals as goal

pub returns : goal.returns
returns c = search wrote_opening
