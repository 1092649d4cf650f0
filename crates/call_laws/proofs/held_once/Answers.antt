-- `held_once` states a theorem of proofs/laws/Places.antt.
use Rattle.call_laws.proofs.laws.Places.{held_once}
use Rattle.call_laws.proofs.held_once.Goals as goal

pub returns : goal.returns
returns c = held_once
