-- `put_number` writes two texts one after the other.
use Rattle.drill_lines.specs.laws.Printing.{two_texts}
use Rattle.drill_lines.proofs.printing.put_number.Goals as goal

pub returns : goal.returns
returns c = search two_texts
