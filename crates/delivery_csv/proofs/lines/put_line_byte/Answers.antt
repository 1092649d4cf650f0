-- `put_line_byte` goes by the byte.
use Rattle.delivery_csv.specs.laws.LineCases.{shown_cases}
use Rattle.delivery_csv.proofs.lines.put_line_byte.Goals as goal

pub returns-then-field_ends : goal.returns-then-field_ends
returns-then-field_ends c = search shown_cases

pub returns-then-byte-eq-QUOTE : goal.returns-then-byte-eq-QUOTE
returns-then-byte-eq-QUOTE c = search shown_cases

pub returns : goal.returns
returns c = search shown_cases
