-- `costliest_session` states the theorem of proofs/laws/Costliest.antt.
use Rattle.costliest.proofs.laws.Costliest.{costliest}
use Rattle.costliest.proofs.costliest_session.Goals as goal

pub returns : goal.returns
returns c = costliest
