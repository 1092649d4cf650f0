-- The line has weights, or they stay.
use Rattle.restore.specs.laws.Opened.{weights_cases}
use Rattle.restore.proofs.first.read_weights.Goals as goal

pub returns-then-count-n : goal.returns-then-count-n
returns-then-count-n c = search weights_cases

pub returns : goal.returns
returns c = search weights_cases
