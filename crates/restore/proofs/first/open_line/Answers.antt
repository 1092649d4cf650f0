-- The letter is an O, and fields follow it.
use Rattle.restore.specs.laws.First.{first_cases}
use Rattle.restore.proofs.first.open_line.Goals as goal

pub slice_bounds-letter-end : goal.slice_bounds-letter-end
slice_bounds-letter-end c = search first_cases

pub returns-then-c-ne-LETTER_O : goal.returns-then-c-ne-LETTER_O
returns-then-c-ne-LETTER_O c = search first_cases

pub returns-then-e-line : goal.returns-then-e-line
returns-then-e-line c = search first_cases

pub returns : goal.returns
returns c = search first_cases
