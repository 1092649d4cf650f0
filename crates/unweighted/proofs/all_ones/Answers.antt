-- `all_ones` states the theorem of proofs/laws/Lists.antt.
use Rattle.unweighted.proofs.laws.Lists.{all_ones}
use Rattle.unweighted.proofs.all_ones.Goals as goal

pub returns : goal.returns
returns c = all_ones
