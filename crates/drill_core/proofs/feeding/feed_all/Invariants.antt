-- The bytes before the index are taken.
use Rattle.drill_core.specs.laws.FeedingCases.{Taking}
use Rattle.drill_core.specs.Feeding.{drilling}
use Rattle.drill_core.proofs.feeding.feed_all.Given as goal

abbrev pub invariant-loop-byte : goal.invariant-loop-byte
invariant-loop-byte l = Taking l.bytes (drilling l.initial.words l.initial.store l.initial.e) (drilling l.words l.store l.e) l.byte-index
