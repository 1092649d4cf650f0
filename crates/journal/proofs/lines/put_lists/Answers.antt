-- `put_lists` writes one part after the other.
use Rattle.journal.specs.laws.Parts.{wrote_lists}
use Rattle.journal.proofs.lines.put_lists.Goals as goal

pub returns : goal.returns
returns c = search wrote_lists
