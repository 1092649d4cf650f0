-- The windows from place k on are left.
use Rattle.calendar.specs.laws.Search.{Sought}
use Rattle.calendar.proofs.nearest_window.Given as goal

abbrev pub invariant-loop-k : goal.invariant-loop-k
invariant-loop-k l = Sought l.windows l.from l.best l.k
