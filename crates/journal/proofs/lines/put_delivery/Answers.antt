-- `put_delivery` writes one part after the other.
use Rattle.journal.specs.laws.Parts.{wrote_delivery}
use Rattle.journal.proofs.lines.put_delivery.Goals as goal

pub returns : goal.returns
returns c = search wrote_delivery
