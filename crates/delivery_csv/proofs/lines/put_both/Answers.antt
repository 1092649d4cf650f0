-- `put_both` writes one byte after the other.
use Rattle.delivery_csv.specs.laws.LineCases.{wrote_two}
use Rattle.delivery_csv.proofs.lines.put_both.Goals as goal

pub returns : goal.returns
returns c = search wrote_two
