-- `put_between` writes three texts one after the other.
use Rattle.delivery_csv.specs.laws.LineCases.{wrote_three}
use Rattle.delivery_csv.proofs.lines.put_between.Goals as goal

pub returns : goal.returns
returns c = search wrote_three
