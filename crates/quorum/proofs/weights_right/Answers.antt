-- Weights of 1, then masks.
use Rattle.quorum.specs.laws.RightMasks.{ones_first}
use Rattle.quorum.proofs.weights_right.Goals as goal

pub returns-then-n-gt16 : goal.returns-then-n-gt16
returns-then-n-gt16 c = search ones_first

pub overflow_sub-all : goal.overflow_sub-all
overflow_sub-all c = search ones_first

pub returns-then-weights-all : goal.returns-then-weights-all
returns-then-weights-all c = search ones_first

pub returns : goal.returns
returns c = search ones_first
