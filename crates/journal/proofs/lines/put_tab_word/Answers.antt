-- `put_tab_word` writes the tab, then the number.
use Rattle.journal.specs.laws.Parts.{two_parts}
use Rattle.journal.proofs.lines.put_tab_word.Goals as goal

pub returns : goal.returns
returns c = search two_parts
