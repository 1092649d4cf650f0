-- Both words are asked.
use Rattle.session.proofs.kinds_right.Goals as goal

pub returns : goal.returns
returns c = cc
