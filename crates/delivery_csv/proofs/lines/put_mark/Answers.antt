-- `put_mark` goes by the byte.
use Rattle.delivery_csv.specs.laws.LineCases.{mark_cases}
use Rattle.delivery_csv.proofs.lines.put_mark.Goals as goal

pub returns-then-byte-eq-LF : goal.returns-then-byte-eq-LF
returns-then-byte-eq-LF c = search mark_cases

pub returns : goal.returns
returns c = search mark_cases
