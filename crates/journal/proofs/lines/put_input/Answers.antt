-- `put_input` writes one part after the other.
use Rattle.journal.specs.laws.Parts.{three_parts}
use Rattle.journal.proofs.lines.put_input.Goals as goal

pub returns : goal.returns
returns c = search three_parts
