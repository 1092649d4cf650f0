-- `five_turns` states the theorem of proofs/laws/Five.antt.
use Rattle.costliest.proofs.laws.Five.{five_turns}
use Rattle.costliest.proofs.five_turns.Goals as goal

pub returns : goal.returns
returns c = five_turns
