-- `put_turn` writes the letter, then the end.
use Rattle.journal.specs.laws.Parts.{two_parts}
use Rattle.journal.proofs.lines.put_turn.Goals as goal

pub returns : goal.returns
returns c = search two_parts
