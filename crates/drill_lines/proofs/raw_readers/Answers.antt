-- `raw_readers` states the theorem of specs/Raw.antt.
use Rattle.drill_lines.proofs.laws.Raw.{raw_readers}
use Rattle.drill_lines.proofs.raw_readers.Goals as goal

pub returns : goal.returns
returns c = raw_readers
