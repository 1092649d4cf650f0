-- The values, then their number.
use Rattle.delivery.proofs.record_commit.Goals as goal

pub returns : goal.returns
returns c = cc
