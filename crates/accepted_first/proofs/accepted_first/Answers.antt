-- `accepted_first` states the theorem of proofs/laws/Moments.antt.
use Rattle.accepted_first.proofs.laws.Moments.{accepted_first_lem}
use Rattle.accepted_first.proofs.accepted_first.Goals as goal

pub returns : goal.returns
returns c = accepted_first_lem
