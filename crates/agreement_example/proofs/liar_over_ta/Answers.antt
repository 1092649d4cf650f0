-- `agreement_example::liar_over_ta` states a theorem of proofs/laws/LowTa.antt.
use Rattle.agreement_example.proofs.laws.LowTa.{low_ta_meet}
use Rattle.agreement_example.proofs.liar_over_ta.Goals as goal

pub returns : goal.returns
returns c = low_ta_meet
