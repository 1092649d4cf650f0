use Rattle.quorum.specs.laws.Lowest.{finding}
use Rattle.commits.specs.laws.Cases.{commit_cases}
use Rattle.commits.proofs.leader_of.Goals as goal

pub loop-q-init : goal.loop-q-init
loop-q-init c = search finding

pub returns-then-set_leads : goal.returns-then-set_leads
returns-then-set_leads c = search (commit_cases, finding)

pub loop-q-preserved : goal.loop-q-preserved
loop-q-preserved c = search finding

pub returns : goal.returns
returns c = search (commit_cases, finding)
