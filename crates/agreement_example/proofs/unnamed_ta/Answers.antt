-- `agreement_example::unnamed_ta` states a theorem of proofs/laws/LowTa.antt.
use Rattle.agreement_example.proofs.laws.LowTa.{unnamed_meet}
use Rattle.agreement_example.proofs.unnamed_ta.Goals as goal

pub returns : goal.returns
returns c = unnamed_meet
