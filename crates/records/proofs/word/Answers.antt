-- A word within the state, or 0 past its end.
use Rattle.std.proofs.Common.{arith}
use Rattle.std.proofs.lemmas.Grind.{common_steps}
use Rattle.records.specs.Words.{word}
use Rattle.records.proofs.word.Goals as goal

pub returns : goal.returns
unfolding word
returns c = grind (arith, common_steps)
