-- `held_again` states a theorem of proofs/laws/Places.antt.
use Rattle.call_laws.proofs.laws.Places.{held_again}
use Rattle.call_laws.proofs.held_again.Goals as goal

pub returns : goal.returns
returns c = held_again
