-- The two values are compared.
use Rattle.commits.proofs.same_value.Goals as goal

pub returns : goal.returns
returns c = cc
