-- `at_most_five` states the theorem of proofs/laws/One.antt.
use Rattle.costliest.proofs.laws.One.{at_most_five}
use Rattle.costliest.proofs.at_most_five.Goals as goal

pub returns : goal.returns
returns c = at_most_five
