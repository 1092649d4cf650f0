use Rattle.drill_core.specs.laws.FeedingCases.{taking}
use Rattle.drill_core.proofs.feeding.feed_all.Goals as goal

pub loop-byte-preserved : goal.loop-byte-preserved
loop-byte-preserved c = search taking

pub returns : goal.returns
returns c = search taking
