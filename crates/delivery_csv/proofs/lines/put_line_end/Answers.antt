-- `put_line_end` goes by whether a line has begun.
use Rattle.delivery_csv.specs.laws.LineCases.{end_cases}
use Rattle.delivery_csv.proofs.lines.put_line_end.Goals as goal

pub returns-then-untouched : goal.returns-then-untouched
returns-then-untouched c = search end_cases

pub returns : goal.returns
returns c = search end_cases
