use Rattle.restore.specs.laws.Replaying.{replaying}
use borrow.Author.Rules.{rules}
use Rattle.restore.proofs.replay.middle.Goals as goal

pub loop-end-init : goal.loop-end-init
loop-end-init c = (search rules, search replaying)

pub returns-then-not-middle_line : goal.returns-then-not-middle_line
returns-then-not-middle_line c = search replaying

pub loop-end-preserved : goal.loop-end-preserved
loop-end-preserved c = (search rules, search replaying)

pub returns : goal.returns
returns c = search replaying
