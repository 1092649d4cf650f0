-- `refusals_keep` states the theorem of proofs/laws/Keeping.antt.
use Rattle.call_laws.proofs.laws.Keeping.{refusals_keep}
use Rattle.call_laws.proofs.refusals_keep.Goals as goal

pub returns : goal.returns
returns c = refusals_keep
