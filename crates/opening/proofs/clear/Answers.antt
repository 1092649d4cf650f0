-- Every word is filled with 0.
use Rattle.std.proofs.Common.{arith}
use Rattle.std.proofs.lemmas.Grind.{common_steps}
use Rattle.records.specs.Words.{blank}
use Rattle.opening.proofs.clear.Goals as goal

pub returns : goal.returns
unfolding blank
returns c = grind (arith, common_steps)
