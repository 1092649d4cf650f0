-- `turn_count` states the theorem of proofs/laws/CallCount.antt.
use Rattle.turn_bound.proofs.laws.CallCount.{turn_count_lem}
use Rattle.turn_bound.proofs.turn_count.Goals as goal

pub returns : goal.returns
returns c = turn_count_lem
