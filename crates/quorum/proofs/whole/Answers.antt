-- Weights of 1 are counted by their number, others by one count.
use Rattle.quorum.specs.laws.RightMasks.{ones_first}
use Rattle.quorum.proofs.whole.Goals as goal

pub overflow_sub-all : goal.overflow_sub-all
overflow_sub-all c = search ones_first

pub returns-then-weights-all : goal.returns-then-weights-all
returns-then-weights-all c = search ones_first

pub overflow_mul-result : goal.overflow_mul-result
overflow_mul-result c = search ones_first

pub overflow_cast-result-2 : goal.overflow_cast-result-2
overflow_cast-result-2 c = search ones_first

pub returns : goal.returns
returns c = search ones_first
