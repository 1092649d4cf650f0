use Rattle.quorum.specs.laws.Lowest.{finding}
use Rattle.broadcasts.specs.laws.Cases.{leading_ends}
use Rattle.broadcasts.proofs.leading_of.Goals as goal

pub loop-k-init : goal.loop-k-init
loop-k-init c = search finding

pub returns-then-leads : goal.returns-then-leads
returns-then-leads c = search leading_ends

pub loop-k-preserved : goal.loop-k-preserved
loop-k-preserved c = search finding

pub returns : goal.returns
returns c = search leading_ends
