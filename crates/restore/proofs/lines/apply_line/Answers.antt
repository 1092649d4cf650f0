-- By the letter, and by what follows it.
use Rattle.restore.specs.laws.Turning.{line_kinds}
use Rattle.restore.proofs.lines.apply_line.Goals as goal

pub slice_bounds-letter-end : goal.slice_bounds-letter-end
slice_bounds-letter-end c = search line_kinds

pub returns-then-e-line : goal.returns-then-e-line
returns-then-e-line c = search line_kinds

pub returns-then-c-eq-LETTER_D : goal.returns-then-c-eq-LETTER_D
returns-then-c-eq-LETTER_D c = search line_kinds

pub returns-then-e-line-2 : goal.returns-then-e-line-2
returns-then-e-line-2 c = search line_kinds

pub returns-then-c-eq-LETTER_K : goal.returns-then-c-eq-LETTER_K
returns-then-c-eq-LETTER_K c = search line_kinds

pub returns-then-c-ne-LETTER_T : goal.returns-then-c-ne-LETTER_T
returns-then-c-ne-LETTER_T c = search line_kinds

pub returns-then-e-line-3 : goal.returns-then-e-line-3
returns-then-e-line-3 c = search line_kinds

pub returns : goal.returns
returns c = search line_kinds
